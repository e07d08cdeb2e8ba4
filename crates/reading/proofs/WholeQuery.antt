-- The whole query: the reading's answer and tables are handed on as `decode_tagged` says.
use Prim.Native.Nat.{ℕ, ◌+◌, ◌-◌, ◌*◌, ◌≤◌, ◌<◌}
use native.Mathlib.Omega.{arith}
use mathlib.Core.Path.{◌≡◌, refl, sym, ap, subst}
use mathlib.Core.Bool.{Bool, true, false, ◌&&◌, cond}
use mathlib.Core.List.{List, []}
use lib.ListN.{length}
use lib.Dec.{ltb, leb, eqb}
use Rattle.std.specs.Prelude.{Ok, Err}
use borrow.Author.Tests.{eq-eqb, ne_eqb, leb-true, ltb-true}
use Rattle.fields.specs.Decoded.{refused, accepted}
use Rattle.strategy.specs.Tree.{Tree}
use Rattle.strategy.specs.Propagation.{enclosing}
use Rattle.predicate.specs.Kinds.{plain_kind, opposite_from}
use Rattle.predicate.specs.Meaning.{Predicate}
use Rattle.predicate.specs.Payload.{kind_fits}
use Rattle.bools.specs.Bools.{and_left}
use Rattle.predicate.proofs.PayloadLaws.{valid_payload_lem}
use Rattle.query.specs.declared.refusal.Refusal.{Refusal}
use Rattle.query.specs.declared.refusal.Refusal.TheVariants.{BytesAfterQuery}
use Rattle.query.specs.Decode.{payload_of, Read, member, whole_query, decode_tagged}
use Rattle.records.specs.Table.{record_at, predicate_in, predicates_at}
use Rattle.reading.specs.declared.tables.Tables.{Tables}
use Rattle.reading.specs.MemberRead.{progress, Reported, MemberRead}
use Rattle.reading.specs.QueryRead.{Recorded, QueryRead}
use Rattle.query.proofs.Readings.{Fits, Each, SoundTree, member_sound}
use Rattle.query.proofs.Accepted.{each_at}
use Rattle.query.specs.Refusal.{refusal_number_range}
use Rattle.records.proofs.Records.{predicates_length, predicates_at_lem}

-- a valid payload's kind is at most 133
kind_small : (tag kind : ℕ) → kind_fits tag (plain_kind kind) ≡ true → kind < 256
unfolding kind_fits plain_kind
kind_small tag kind h = opposite (ltb kind opposite_from) refl h
  where
    below : (x : Bool) (k t : ℕ) → leb k 1 ≡ x → cond x (eqb t 78) (leb k 5 && eqb t 84) ≡ true → k ≤ 5
    below true k t e g = let l = leb-true k 1 e in omega arith
    below false k t e g = leb-true k 5 (and_left _ _ g)

    opposite : (x : Bool) → ltb kind opposite_from ≡ x
        → cond (leb (cond x kind (kind - 128)) 1) (eqb tag 78) (leb (cond x kind (kind - 128)) 5 && eqb tag 84) ≡ true → kind < 256
    opposite true e g = let l = ltb-true kind 128 e in omega arith
    opposite false e g = let l = below (leb (kind - 128) 1) (kind - 128) tag refl g in omega arith

-- what holds of each predicate listed holds at each number
listed_at : (P : Predicate → Type 0) (q os : List ℕ) (n : ℕ) → Each P (predicates_at q os n) → (c : ℕ) → c < n → P (predicate_in q (record_at q os c))
listed_at P q os n h c l =
    let other : Predicate = predicate_in q (record_at q os c) in
    subst P (predicates_at_lem q os n c other l) (each_at P (predicates_at q os n) h c other (omega (arith, predicates_length q os n)))

recorded : (tags q os : List ℕ) (c : ℕ) → Fits tags q (predicate_in q (record_at q os c)) → Recorded tags q os c
recorded tags q os c f =
    let v = valid_payload_lem tags (payload_of (predicate_in q (record_at q os c))) f.valid in
    record { valid = f.valid; column = v.column_in; kind = kind_small _ _ v.kind_fits_lem }

module _ (tags q : List ℕ) (T T1 : Tables) where
  reported : (r : _) → MemberRead tags q 0 (length q) 0 0 r T T1 → Reported q enclosing 0 (member (2 * length q + 1) tags q 0 (length q) 0 []) r T T1
  unfolding predicates_at
  reported r h = h.exact (2 * length q + 1) (omega arith)

  pub whole_refused : (e : Refusal) → MemberRead tags q 0 (length q) 0 0 (Err e) T T1 → QueryRead tags q (decode_tagged tags q) (Err e) T1
  unfolding decode_tagged
  whole_refused e h = go (member (2 * length q + 1) tags q 0 (length q) 0 []) (reported (Err e) h)
    where
      go : (o : Read (Tree ℕ)) → Reported q enclosing 0 o (Err e) T T1 → QueryRead tags q (whole_query q o) (Err e) T1
      go (refused x) t = (t, rw t at (refusal_number_range e))
      go (accepted (t, ps, next)) d = absurd d.answer

  pub whole_left : (p m : ℕ) → MemberRead tags q 0 (length q) 0 0 (progress p m) T T1 → (p ≡ length q → ⊥) → QueryRead tags q (decode_tagged tags q) (Err BytesAfterQuery) T1
  unfolding decode_tagged
  whole_left p m h n = go (member (2 * length q + 1) tags q 0 (length q) 0 []) (reported (progress p m) h)
    where
      go : (o : Read (Tree ℕ)) → Reported q enclosing 0 o (progress p m) T T1 → QueryRead tags q (whole_query q o) (Err BytesAfterQuery) T1
      go (refused x) t = absurd t
      go (accepted (t, ps, next)) d = let z : next ≡ p = sym d.answer.0 in rw (z, ne_eqb _ _ n) (refl, (omega arith, omega arith))

  pub whole_accepted : (p m : ℕ) → MemberRead tags q 0 (length q) 0 0 (progress p m) T T1 → p ≡ length q → QueryRead tags q (decode_tagged tags q) (Ok m) T1
  unfolding decode_tagged predicates_at
  whole_accepted p m h e =
      go (member (2 * length q + 1) tags q 0 (length q) 0 []) (reported (progress p m) h) (member_sound (2 * length q + 1) tags q 0 (length q) 0 [])
    where
      go : (o : Read (Tree ℕ)) → Reported q enclosing 0 o (progress p m) T T1 → SoundTree tags q 0 (length q) 0 o → QueryRead tags q (whole_query q o) (Ok m) T1
      go (refused x) t k = absurd t
      go (accepted (t, ps, next)) d k =
          let z : next ≡ p = sym d.answer.0 in
          let y : m ≡ length ps = (let w : m ≡ 0 + length ps = d.answer.1 in omega arith) in
          let l : predicates_at q T1.offsets (length ps) ≡ ps = (let w : 0 + length ps ≡ length ps = omega arith in rw w at d.shown) in
          let few = k.few (omega arith) in
          rw (z, eq-eqb _ _ e) (
            ap Ok y,
            record {
              some = k.some;
              few = omega arith;
              count = refl;
              leaves = k.counted;
              numbered = k.numbered;
              full = k.full;
              located = record { sized = h.within.sized.offsets; few = omega arith; each = λ c i. h.within.each c (omega arith) };
              shown = l;
              each = λ c i. recorded tags q T1.offsets c (listed_at (Fits tags q) q T1.offsets (length ps) (rw l k.each) c i);
              ancestors = λ c i. d.ancestors.new c (omega arith, omega arith);
              low = λ c i. h.within.low c (omega arith);
              spans = rw y at h.within.spans;
              sized = h.within.sized;
            },
          )
