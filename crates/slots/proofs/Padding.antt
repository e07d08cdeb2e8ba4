-- A slot is valid just where none of its three words has a bit of those that the table forbids them.
use Prim.Native.Nat.{ℕ, zero, suc, ◌+◌, ◌-◌, ◌*◌, ◌^◌, ◌≤◌, ◌<◌}
use native.Mathlib.Omega.{arith}
use mathlib.Core.Path.{◌≡◌, refl, sym, ap, ap₂, ◌∙◌}
use mathlib.Core.Bool.{Bool, true, false, ◌&&◌, and_assoc}
use mathlib.Core.List.{List}
use lib.ListN.{get_or}
use lib.Dec.{eqb, leb}
use lib.Bits.{bit_and, bit_or, and_block, and_mask, and_zero_r, and_le_l, and_le_r, or_add_and}
use borrow.Author.Tests.{eq-eqb, ne_eqb, eqb-true, leb-true, leb-false, le-leb, lt-leb}
use Rattle.bools.specs.Bools.{iff_eq, both, and_parts, ltb_yes, ltb_no}
use Rattle.fields.specs.Numbers.{Bytes}
use Rattle.words.specs.Words.{word_at}
use Rattle.slots.specs.Slots.{zeros_at, valid_slot}
use Rattle.slots.specs.Limits.{limit_count, Limits}

-- nothing is in a sum, or in two sets of bits, just where nothing is in either part

sum_none : (x w : ℕ) → eqb (w * 256 + x) 0 ≡ (eqb x 0 && eqb w 0)
sum_none zero zero = refl
sum_none zero (suc w) = rw (ne_eqb (suc w * 256 + 0) 0 (λ e. omega arith), ne_eqb (suc w) 0 (λ e. omega arith))
sum_none (suc x) w = rw (ne_eqb (w * 256 + suc x) 0 (λ e. omega arith), ne_eqb (suc x) 0 (λ e. omega arith))

pub or_none : (x y : ℕ) → eqb (bit_or x y) 0 ≡ (eqb x 0 && eqb y 0)
or_none x y = iff_eq (eqb (bit_or x y) 0) (eqb x 0 && eqb y 0) to from
  where
    to : eqb (bit_or x y) 0 ≡ true → (eqb x 0 && eqb y 0) ≡ true
    to t =
        let e = eqb-true (bit_or x y) 0 t in
        both (eq-eqb x 0 (omega (arith, or_add_and x y, and_le_r x y))) (eq-eqb y 0 (omega (arith, or_add_and x y, and_le_l x y)))

    from : (eqb x 0 && eqb y 0) ≡ true → eqb (bit_or x y) 0 ≡ true
    from t =
        let p = and_parts (eqb x 0) (eqb y 0) t in
        let e = eqb-true x 0 p.0 in
        let f = eqb-true y 0 p.1 in
        eq-eqb (bit_or x y) 0 (omega (arith, or_add_and x y))

module _ (t b : List ℕ) (T : Bytes t) (B : Bytes b) where
  -- none of so many bytes from `at` on has a bit of the entry beside it, the entries counted from k on
  unfoldable clear_at : (at k width : ℕ) → Bool
  clear_at at k zero = true
  clear_at at k (suc n) = eqb (bit_and (get_or b at 0) (get_or t k 0)) 0 && clear_at (at + 1) (k + 1) n

  clear_split : (at k m n : ℕ) → clear_at at k (m + n) ≡ (clear_at at k m && clear_at (at + m) (k + m) n)
  unfolding clear_at
  clear_split at k zero n = let z : 0 + n ≡ n = omega arith in let y : at + 0 ≡ at = omega arith in let x : k + 0 ≡ k = omega arith in rw (z, y, x)
  clear_split at k (suc m) n =
      let z : suc m + n ≡ suc (m + n) = omega arith in
      let y : at + suc m ≡ at + 1 + m = omega arith in
      let x : k + suc m ≡ k + 1 + m = omega arith in
      rw (z, y, x, clear_split (at + 1) (k + 1) m n) (sym (and_assoc (eqb (bit_and (get_or b at 0) (get_or t k 0)) 0) (clear_at (at + 1) (k + 1) m) (clear_at (at + 1 + m) (k + 1 + m) n)))

  word_clear : (at k n : ℕ) → eqb (bit_and (word_at b at n) (word_at t k n)) 0 ≡ clear_at at k n
  unfolding clear_at word_at
  word_clear at k zero = refl
  word_clear at k (suc n) =
      ap (λ (z : ℕ). eqb z 0) (joined (get_or b at 0) (word_at b (at + 1) n) (get_or t k 0) (word_at t (k + 1) n) (B at) (T k))
      ∙ sum_none (bit_and (get_or b at 0) (get_or t k 0)) (bit_and (word_at b (at + 1) n) (word_at t (k + 1) n))
      ∙ ap (◌&&◌ (eqb (bit_and (get_or b at 0) (get_or t k 0)) 0)) (word_clear (at + 1) (k + 1) n)
    where
      joined : (x w f v : ℕ) → x < 256 → f < 256 → bit_and (x + 256 * w) (f + 256 * v) ≡ bit_and w v * 256 + bit_and x f
      joined x w f v l m = ap₂ bit_and (turn x w) (turn f v) ∙ and_block 8 w v x f l m
        where
          turn : (x w : ℕ) → x + 256 * w ≡ w * 2 ^ 8 + x
          turn x w = omega arith

  by_words : (at k : ℕ) → clear_at at k 24
      ≡ (eqb (bit_and (word_at b at 8) (word_at t k 8)) 0 && (eqb (bit_and (word_at b (at + 8) 8) (word_at t (k + 8) 8)) 0 && eqb (bit_and (word_at b (at + 16) 8) (word_at t (k + 16) 8)) 0))
  by_words at k =
      let z : at + 8 + 8 ≡ at + 16 = omega arith in
      let y : k + 8 + 8 ≡ k + 16 = omega arith in
      clear_split at k 8 16
      ∙ ap₂ ◌&&◌ (sym (word_clear at k 8))
      (clear_split (at + 8) (k + 8) 8 8 ∙ ap₂ ◌&&◌ (sym (word_clear (at + 8) (k + 8) 8)) (ap₂ (λ (p q : ℕ). clear_at p q 8) z y ∙ sym (word_clear (at + 16) (k + 16) 8)))

  module _ (L : Limits t) where
    free : (k : ℕ) → 232 ≤ k → k < 256 → get_or t k 0 ≡ 0
    free k l m = L.rule k (omega arith) ∙ rw (le-leb 232 k l, ltb_yes k 256 m)

    held_low : (k : ℕ) → k < 232 → get_or t k 0 ≡ 255
    held_low k l = L.rule k (omega arith) ∙ rw (lt-leb 232 k l)

    held_high : (k : ℕ) → 256 ≤ k → k < limit_count → get_or t k 0 ≡ 255
    held_high k l m = L.rule k m ∙ rw (le-leb 232 k (omega arith), ltb_no k 256 l)

    all_bits : (x : ℕ) → x < 256 → bit_and x 255 ≡ x
    all_bits x l = and_mask x 8 ∙ omega arith

    -- the length byte and the text; the bytes after them
    text_clear : (at k n : ℕ) → 232 ≤ k → k + n ≤ 256 → clear_at at k n ≡ true
    unfolding clear_at
    text_clear at k zero l m = refl
    text_clear at k (suc n) l m = rw (free k l (omega arith), and_zero_r (get_or b at 0)) (text_clear (at + 1) (k + 1) n (omega arith) (omega arith))

    padding_clear : (at k n : ℕ) → 256 ≤ k → k + n ≤ limit_count → clear_at at k n ≡ zeros_at b at n
    unfolding clear_at zeros_at
    padding_clear at k zero l m = refl
    padding_clear at k (suc n) l m =
        rw (held_high k l (omega arith), all_bits (get_or b at 0) (B at), padding_clear (at + 1) (k + 1) n (omega arith) (omega arith))

    module _ (at n : ℕ) (e : n ≡ get_or b at 0) where
      fits : n ≤ 23 → clear_at at (255 - n) 24 ≡ valid_slot b at
      unfolding valid_slot
      fits l =
          let c : 24 ≡ n + 1 + (23 - n) = omega arith in
          let p : at + (n + 1) ≡ at + 1 + n = omega arith in
          rw (sym e, le-leb n 23 l)
          (ap (clear_at at (255 - n)) c ∙ clear_split at (255 - n) (n + 1) (23 - n)
          ∙ ap₂ ◌&&◌ (text_clear at (255 - n) (n + 1) (omega arith) (omega arith))
          (padding_clear (at + (n + 1)) (255 - n + (n + 1)) (23 - n) (omega arith) (omega arith) ∙ ap (λ (q : ℕ). zeros_at b q (23 - n)) p))

      over : 23 < n → clear_at at (255 - n) 24 ≡ valid_slot b at
      unfolding clear_at valid_slot
      over l =
          let small : n < 256 = let s = B at in omega arith in
          rw (sym e, lt-leb n 23 l, held_low (255 - n) (omega arith), all_bits n small, ne_eqb n 0 (λ z. omega arith))

      seen : clear_at at (255 - n) 24 ≡ valid_slot b at
      seen = go (leb n 23) refl
        where
          go : (q : Bool) → leb n 23 ≡ q → clear_at at (255 - n) 24 ≡ valid_slot b at
          go true h = fits (leb-true n 23 h)
          go false h = over (leb-false n 23 h)

-- as the code has it: n is the length byte, x, y and z the three words, u, v and w those of the table
pub slot_seen : (t b : List ℕ) → Limits t → Bytes t → Bytes b → (at n : ℕ) {x y z u v w : ℕ} → n ≡ get_or b at 0
    → x ≡ word_at b at 8 → y ≡ word_at b (at + 8) 8 → z ≡ word_at b (at + 16) 8
    → u ≡ word_at t (255 - n) 8 → v ≡ word_at t (255 - n + 8) 8 → w ≡ word_at t (255 - n + 16) 8
    → valid_slot b at ≡ (eqb (bit_and x u) 0 && (eqb (bit_and y v) 0 && eqb (bit_and z w) 0))
slot_seen t b L T B at n e ex ey ez eu ev ew =
    sym (seen t b T B L at n e) ∙ by_words t b T B at (255 - n) ∙ ap₂ ◌&&◌ (word ex eu) (ap₂ ◌&&◌ (word ey ev) (word ez ew))
  where
    word : {x y u v : ℕ} → x ≡ y → u ≡ v → eqb (bit_and y v) 0 ≡ eqb (bit_and x u) 0
    word f g = ap₂ (λ (p q : ℕ). eqb (bit_and p q) 0) (sym f) (sym g)
