-- The predicates listed by their offsets, an offset put, and the predicate of a payload.
use Rattle.std.proofs.Common.{ℕ, zero, suc, ◌+◌, ◌≤◌, ◌<◌, add-one, arith, ◌≡◌, refl, ◌∙◌, ◌⊎◌, inl, inr, List, [], ◌∷◌, ◌++◌, length, get_or, set, length-append, get_or-set_same, get_or-set_other}
use Rattle.std.proofs.Math.ListN.{get_or-append}
use Rattle.std.proofs.Math.Seq.{get_or_at}
use Rattle.fields.specs.Header.{header_size, field_end}
use Rattle.bools.specs.Bools.{same?}
use Rattle.predicate.specs.Meaning.{Predicate}
use Rattle.predicate.specs.Payload.{payload_head, predicate_of}
use Rattle.query.specs.Decode.{payload_at}
use Rattle.records.specs.Offsets.{HasPayload}
use Rattle.records.specs.Table.{record_at, record_of, predicate_in, predicates_at}
use Rattle.query.proofs.PayloadBytes.{payload_byte, operand_at}

-- the predicates listed

pub predicates_length : (q os : List ℕ) (n : ℕ) → length (predicates_at q os n) ≡ n
unfolding predicates_at
predicates_length q os zero = refl
predicates_length q os (suc n) = rw length-append (omega (arith, predicates_length q os n))

pub predicates_at_lem : (q os : List ℕ) (n c : ℕ) (other : Predicate) → c < n → get_or (predicates_at q os n) c other ≡ predicate_in q (record_at q os c)
unfolding predicates_at
predicates_at_lem q os zero c other l = absurd (omega arith)
predicates_at_lem q os (suc n) c other l =
    let size : length (predicates_at q os n) ≡ n = predicates_length q os n in
    let go : (c ≡ n) ⊎ (c ≡ n → ⊥) → get_or (predicates_at q os n ++ (predicate_in q (record_at q os n) ∷ [])) c other ≡ predicate_in q (record_at q os c)
    = elim [
      | inl e ↦ rw e (get_or_at (predicates_at q os n) (predicate_in q (record_at q os n)) [] other n size)
      | inr e ↦ get_or-append (predicates_at q os n) (predicate_in q (record_at q os n) ∷ []) other c (omega arith) ∙ predicates_at_lem q os n c other (omega arith)
    ] in
    go (same? c n)

predicates_same : (q os os' : List ℕ) (n : ℕ) → ((c : ℕ) → c < n → get_or os' c 0 ≡ get_or os c 0) → predicates_at q os' n ≡ predicates_at q os n
unfolding predicates_at
predicates_same q os os' zero h = refl
predicates_same q os os' (suc n) h = rw (h n (omega arith), predicates_same q os os' n (λ c l. h c (omega arith)))

-- the offset of one predicate more
module _ (q os : List ℕ) (n at : ℕ) (room : n < length os) where
  here : get_or (set os n at) n 0 ≡ at
  here = get_or-set_same os n at 0 room

  before : (c : ℕ) → c < n → get_or (set os n at) c 0 ≡ get_or os c 0
  before c l = get_or-set_other os n c at 0 (λ e. omega arith)

  pub predicates_put : predicates_at q (set os n at) (n + 1) ≡ predicates_at q os n ++ (predicate_in q (record_of q (at + header_size) (field_end q at)) ∷ [])
  unfolding predicates_at
  predicates_put = rw (add-one n, here, predicates_same q os (set os n at) n before)

  pub payload_put : ((c : ℕ) → c < n → HasPayload q os c) → at + header_size + payload_head ≤ field_end q at → field_end q at ≤ length q → (c : ℕ) → c < n + 1 → HasPayload q (set os n at) c
  payload_put h a b c k = go (same? c n)
    where
      go : (c ≡ n) ⊎ (c ≡ n → ⊥) → HasPayload q (set os n at) c
      go (inl e) = rw (e, here) (a, b)
      go (inr e) = rw (before c (omega arith)) (h c (omega arith))

-- the predicate of a payload stands in the query as its record says
pub record_shows : (q : List ℕ) (start end : ℕ) → start + payload_head ≤ end → predicate_in q (record_of q start end) ≡ predicate_of (start + payload_head) (payload_at q start end)
record_shows q start end two =
    let x : get_or (payload_at q start end) 0 0 ≡ get_or q start 0 = payload_byte q start end 0 (omega arith) ∙ (let z : start + 0 ≡ start = omega arith in rw z) in
    let y : get_or (payload_at q start end) 1 0 ≡ get_or q (start + 1) 0 = payload_byte q start end 1 (omega arith) in
    rw (x, y, operand_at q start end two)
