-- The check for an earlier payload: word by word and byte by byte, and predicate by predicate.
use Prim.Native.Nat.{ℕ, zero, suc, ◌+◌, ◌-◌, ◌*◌, ◌≤◌, ◌<◌}
use native.Mathlib.Numerals.{add-one}
use native.Mathlib.Omega.{arith}
use mathlib.Core.Path.{◌≡◌, refl, sym, ap, ap₂, ◌∙◌}
use mathlib.Core.Bool.{Bool, true, false, ◌&&◌, ◌||◌, and-false, and_assoc, or-false, or_assoc}
use mathlib.Core.Logic.{◌⊎◌, inl, inr}
use mathlib.Core.List.{List, [], ◌∷◌, ◌++◌}
use lib.ListN.{length, get_or, take, drop, drop_of_length-le}
use lib.Seq.{drop-cons}
use lib.Dec.{eqb, leb}
use borrow.Author.Tests.{eq-eqb, ne_eqb, eqb-true, leb-true, leb-false}
use Rattle.bools.specs.Bools.{same?, or_left, or_right, both, and_parts, iff_eq}
use Rattle.fields.specs.Numbers.{Bytes}
use Rattle.words.specs.Words.{word_at}
use Rattle.predicate.specs.Meaning.{Predicate, same}
use Rattle.predicate.specs.Payload.{payload_head}
use Rattle.query.specs.Decode.{payload_at, payload_of, is_repeated}
use Rattle.records.specs.Offsets.{start_at, end_at, HasPayload}
use Rattle.records.specs.Table.{record_at, predicate_in, predicates_at}
use Rattle.members.specs.Heads.{head_at, OtherHeads}
use Rattle.query.proofs.PayloadBytes.{payload_byte, payload_length, payload_parts}
use Rattle.records.proofs.Records.{record_shows}

-- bytes of two lengths are not the same
pub same_sizes : (a b : List ℕ) → (length a ≡ length b → ⊥) → same a b ≡ false
unfolding same
same_sizes [] [] n = absurd (n refl)
same_sizes [] (y ∷ b) n = refl
same_sizes (x ∷ a) [] n = refl
same_sizes (x ∷ a) (y ∷ b) n = rw (same_sizes a b (λ e. n (ap suc e))) (and-false (eqb x y))

same_at : (a b : List ℕ) (i : ℕ) → length a ≡ length b → i < length a → same (drop i a) (drop i b) ≡ (eqb (get_or a i 0) (get_or b i 0) && same (drop (i + 1) a) (drop (i + 1) b))
unfolding same
same_at a b i sizes l = rw (add-one, drop-cons a i 0 l, drop-cons b i 0 (omega arith))

-- a loop over the bytes: what is left to compare from place i on
module _ (a b : List ℕ) (i : ℕ) (so_far : same a b ≡ same (drop i a) (drop i b)) (sizes : length a ≡ length b) where
  pub same_end : length a ≤ i → true ≡ same a b
  unfolding same
  same_end l = rw (so_far, drop_of_length-le a l, drop_of_length-le b {i = i} (omega arith))

  same_step : i < length a → same a b ≡ (eqb (get_or a i 0) (get_or b i 0) && same (drop (i + 1) a) (drop (i + 1) b))
  same_step l = so_far ∙ same_at a b i sizes l

  pub same_differ : i < length a → (get_or a i 0 ≡ get_or b i 0 → ⊥) → false ≡ same a b
  same_differ l n = rw (same_step l, ne_eqb _ _ n)

  pub same_more : i < length a → get_or a i 0 ≡ get_or b i 0 → same a b ≡ same (drop (i + 1) a) (drop (i + 1) b)
  same_more l e = rw (same_step l, eq-eqb _ _ e)

-- the same by words of k bytes
word_tells : (x y u v : ℕ) → x < 256 → y < 256 → eqb (x + 256 * u) (y + 256 * v) ≡ (eqb x y && eqb u v)
word_tells x y u v l m = iff_eq (eqb (x + 256 * u) (y + 256 * v)) (eqb x y && eqb u v) to from
  where
    to : eqb (x + 256 * u) (y + 256 * v) ≡ true → (eqb x y && eqb u v) ≡ true
    to t = let e = eqb-true (x + 256 * u) (y + 256 * v) t in both (eq-eqb x y (omega arith)) (eq-eqb u v (omega arith))

    from : (eqb x y && eqb u v) ≡ true → eqb (x + 256 * u) (y + 256 * v) ≡ true
    from t =
        let p = and_parts (eqb x y) (eqb u v) t in
        let e = eqb-true x y p.0 in
        let f = eqb-true u v p.1 in
        eq-eqb (x + 256 * u) (y + 256 * v) (omega arith)

module _ (a b : List ℕ) (sa : Bytes a) (sb : Bytes b) (sizes : length a ≡ length b) where
  same_run : (i k : ℕ) → i + k ≤ length a → same (drop i a) (drop i b) ≡ (eqb (word_at a i k) (word_at b i k) && same (drop (i + k) a) (drop (i + k) b))
  unfolding word_at
  same_run i zero l = let z : i + 0 ≡ i = omega arith in rw z
  same_run i (suc k) l =
      let z : i + suc k ≡ i + 1 + k = omega arith in
      same_at a b i sizes (omega arith) ∙ ap (◌&&◌ (eqb (get_or a i 0) (get_or b i 0))) (same_run (i + 1) k (omega arith))
      ∙ sym (and_assoc (eqb (get_or a i 0) (get_or b i 0)) (eqb (word_at a (i + 1) k) (word_at b (i + 1) k)) (same (drop (i + 1 + k) a) (drop (i + 1 + k) b)))
      ∙ ap₂ ◌&&◌ (sym (word_tells (get_or a i 0) (get_or b i 0) (word_at a (i + 1) k) (word_at b (i + 1) k) (sa i) (sb i))) (ap (λ (j : ℕ). same (drop j a) (drop j b)) (sym z))

  module _ (i : ℕ) (so_far : same a b ≡ same (drop i a) (drop i b)) (l : 8 ≤ length a - i) (inside : i ≤ length a) where
    pub words_differ : (word_at a i 8 ≡ word_at b i 8 → ⊥) → false ≡ same a b
    words_differ n = rw (so_far, same_run i 8 (omega arith), ne_eqb (word_at a i 8) (word_at b i 8) n)

    pub words_more : word_at a i 8 ≡ word_at b i 8 → same a b ≡ same (drop (i + 8) a) (drop (i + 8) b)
    words_more e = rw (so_far, same_run i 8 (omega arith), eq-eqb (word_at a i 8) (word_at b i 8) e)

-- a payload against the bytes from `start` up to `end`

pub same_part : (payload q : List ℕ) (start end : ℕ) (r : Bool) → r ≡ same payload (take (end - start) (drop start q)) → r ≡ same payload (payload_at q start end)
unfolding payload_at
same_part payload q start end r e = e

module _ (payload q : List ℕ) (start end : ℕ) (some : 2 ≤ length payload) (two : start + payload_head ≤ end) (inside : end ≤ length q) where
  abbrev here : List ℕ
  here = payload_at q start end

  byte_is : (i : ℕ) → i < 2 → get_or here i 0 ≡ get_or q (start + i) 0
  byte_is i l = payload_byte q start end i (omega arith)

  here_parts : here ≡ get_or q start 0 ∷ get_or q (start + 1) 0 ∷ drop 2 here
  here_parts =
      let z : start + 0 ≡ start = omega arith in
      payload_parts here (omega (arith, payload_length q start end (omega arith) inside)) ∙ rw (byte_is 0 (omega arith), byte_is 1 (omega arith), z)

  abbrev column : Bool
  column = eqb (get_or payload 0 0) (get_or q start 0)

  abbrev after : Bool
  after = eqb (get_or payload 1 0) (get_or q (start + 1) 0) && same (drop 2 payload) (drop 2 here)

  -- column and kind as one number
  other_head : (x : ℕ) → x ≡ head_at payload 0 → (x ≡ head_at q start → ⊥) → false ≡ same payload here
  unfolding same word_at
  other_head x x-is n = sym (ap₂ same (payload_parts payload some) here_parts ∙ go (same? (get_or payload 0 0) (get_or q start 0)))
    where
      other_kind : get_or payload 0 0 ≡ get_or q start 0 → after ≡ false
      other_kind e = rw (ne_eqb (get_or payload 1 0) (get_or q (start + 1) 0) (λ f. n (omega arith)))

      go : (get_or payload 0 0 ≡ get_or q start 0) ⊎ (get_or payload 0 0 ≡ get_or q start 0 → ⊥) → (column && after) ≡ false
      go (inl e) = rw (other_kind e) (and-false column)
      go (inr m) = rw (ne_eqb (get_or payload 0 0) (get_or q start 0) m)

-- the payload at a predicate's offset is its own
module _ (q os : List ℕ) (c : ℕ) (has : HasPayload q os c) where
  shown : payload_of (predicate_in q (record_at q os c)) ≡ payload_at q (start_at os c) (end_at q os c)
  shown =
      ap payload_of (record_shows q (start_at os c) (end_at q os c) has.0)
      ∙ sym (payload_parts (payload_at q (start_at os c) (end_at q os c)) (omega (arith, payload_length q (start_at os c) (end_at q os c) (omega arith) has.1)))

  pub same_shown : (payload : List ℕ) (r : Bool) → r ≡ same payload (payload_at q (start_at os c) (end_at q os c)) → r ≡ same payload (payload_of (predicate_in q (record_at q os c)))
  same_shown payload r e = e ∙ ap (same payload) (sym shown)

-- one predicate more to compare with
repeated_last : (payload : List ℕ) (ps : List Predicate) (p : Predicate) → is_repeated payload (ps ++ (p ∷ [])) ≡ (is_repeated payload ps || same payload (payload_of p))
unfolding is_repeated
repeated_last payload [] p = or-false (same payload (payload_of p))
repeated_last payload (o ∷ ps) p =
    ap (◌||◌ (same payload (payload_of o))) (repeated_last payload ps p) ∙ sym (or_assoc (same payload (payload_of o)) (is_repeated payload ps) (same payload (payload_of p)))

-- the payload is that of none of the predicates from `c` up to `n`
abbrev pub Unlike : (payload q offsets : List ℕ) → (c n : ℕ) → Type 0
Unlike payload q os c n = (d : ℕ) → c ≤ d → d < n → same payload (payload_of (predicate_in q (record_at q os d))) ≡ false

pub repeated_none : (payload q os : List ℕ) (n : ℕ) → Unlike payload q os 0 n → is_repeated payload (predicates_at q os n) ≡ false
unfolding is_repeated predicates_at
repeated_none payload q os zero h = refl
repeated_none payload q os (suc n) h =
    repeated_last payload (predicates_at q os n) (predicate_in q (record_at q os n))
    ∙ rw (repeated_none payload q os n (λ d i j. h d i (omega arith)), h n (omega arith) (omega arith))

module _ (payload q os : List ℕ) (r : Bool) (c : ℕ) (r-is : r ≡ same payload (payload_of (predicate_in q (record_at q os c)))) where
  pub repeated_at : (n : ℕ) → c < n → r ≡ true → true ≡ is_repeated payload (predicates_at q os n)
  unfolding predicates_at
  repeated_at zero l e = absurd (omega arith)
  repeated_at (suc n) l e = sym (repeated_last payload (predicates_at q os n) (predicate_in q (record_at q os n)) ∙ go (λ k. repeated_at n k e) (same? c n))
    where
      go : (c < n → true ≡ is_repeated payload (predicates_at q os n)) → (c ≡ n) ⊎ (c ≡ n → ⊥)
          → (is_repeated payload (predicates_at q os n) || same payload (payload_of (predicate_in q (record_at q os n)))) ≡ true
      go h (inl z) = or_right (is_repeated payload (predicates_at q os n)) (rw (← z) (sym r-is ∙ e))
      go h (inr z) = or_left (same payload (payload_of (predicate_in q (record_at q os n)))) (sym (h (omega arith)))

  pub unlike_more : (n : ℕ) → Unlike payload q os (c + 1) n → r ≡ false → Unlike payload q os c n
  unlike_more n h e d i j = go (same? d c)
    where
      go : (d ≡ c) ⊎ (d ≡ c → ⊥) → same payload (payload_of (predicate_in q (record_at q os d))) ≡ false
      go (inl z) = rw z (sym r-is ∙ e)
      go (inr z) = h d (omega arith) j

-- predicates with another head are unlike, and so are those passed over
pub unlike_passed : (payload q os : List ℕ) (h n left next : ℕ) → 2 ≤ length payload → h ≡ head_at payload 0 → ((d : ℕ) → d < n → HasPayload q os d) → left ≤ n → OtherHeads h q os next left
    → Unlike payload q os left n → Unlike payload q os next n
unlike_passed payload q os h n left next some h-is has l other U d i j = go (leb left d) refl
  where
    go : (p : Bool) → leb left d ≡ p → same payload (payload_of (predicate_in q (record_at q os d))) ≡ false
    go true e = U d (leb-true left d e) j
    go false e =
        let m : d < left = leb-false left d e in
        sym (same_shown q os d (has d j) payload false (other_head payload q (start_at os d) (end_at q os d) some (has d j).0 (has d j).1 h h-is (λ z. other d i m (sym z))))
