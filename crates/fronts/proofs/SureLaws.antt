-- The asked bits and their values put together byte by byte: where a word passes, the bytes fold as the operand's.
use Prim.Native.Nat.{ℕ, zero, suc, ◌+◌, ◌-◌, ◌*◌, ◌^◌, ◌≤◌, ◌<◌}
use native.Mathlib.Nat.{add-zero}
use native.Mathlib.Omega.{arith}
use mathlib.Core.Path.{◌≡◌, sym, ap, ap₂, ◌∙◌}
use mathlib.Core.Logic.{◌⊎◌, inl, inr}
use mathlib.Core.List.{List}
use lib.ListN.{length, get_or}
use lib.Pow.{pow_mono, pow-add}
use lib.Bits.{bit_and, bit_xor, xor_lt, and_block, xor_block}
use Rattle.bools.specs.Bools.{eqb_eq, same?}
use Rattle.fields.specs.Numbers.{Bytes}
use Rattle.words.specs.Words.{word_at}
use Rattle.predicate.specs.Meaning.{fold}
use Rattle.predicate.proofs.FoldLaws.{fold_again}
use Rattle.fronts.specs.Sure.{sure_size, asked_bits, SureSize, SureFor}
use Rattle.fronts.proofs.AskedBits.{asked_small, asked_folds}

-- two words that differ in no asked bit do not so in their lowest bytes, nor in what lies above these
none_in_parts : (W U M x v m : ℕ) → x < 256 → v < 256 → m < 256 → bit_and (bit_xor (x + 256 * W) (256 * U + v)) (256 * M + m) ≡ 0
    → (bit_and (bit_xor W U) M ≡ 0) × (bit_and (bit_xor x v) m ≡ 0)
none_in_parts W U M x v m hx hv hm e =
    let w : x + 256 * W ≡ W * 2 ^ 8 + x = omega arith in
    let u : 256 * U + v ≡ U * 2 ^ 8 + v = omega arith in
    let n : 256 * M + m ≡ M * 2 ^ 8 + m = omega arith in
    let parts : bit_and (bit_xor (x + 256 * W) (256 * U + v)) (256 * M + m) ≡ bit_and (bit_xor W U) M * 2 ^ 8 + bit_and (bit_xor x v) m
    = ap₂ bit_and (ap₂ bit_xor w u ∙ xor_block 8 W U x v hx hv) n ∙ and_block 8 (bit_xor W U) M (bit_xor x v) m (xor_lt 8 x v hx hv) hm in
    (omega (arith, parts, e), omega (arith, parts, e))

-- of the operand's first n bytes those from i on are put together
pub record Asking (o : List ℕ) (n i asked value : ℕ) : Type 0 where
  pub size : SureSize (length o) n
  pub inside : i ≤ n
  pub asked_small : asked < 2 ^ (8 * (n - i))
  pub value_small : value < 2 ^ (8 * (n - i))
  pub shows : (b : List ℕ) (p width : ℕ) → Bytes b → n - i ≤ width → bit_and (bit_xor (word_at b (p + i) width) value) asked ≡ 0
      → (j : ℕ) → i ≤ j → j < n → fold (get_or b (p + j) 0) ≡ fold (get_or o j 0)

pub asking_none : {o : List ℕ} {n : ℕ} → SureSize (length o) n → Asking o n n 0 0
asking_none {o} {n} S = record {
  size = S;
  inside = omega arith;
  asked_small = one;
  value_small = one;
  shows = λ b p width h l e j from below. absurd (omega arith);
}
  where
    one : 0 < 2 ^ (8 * (n - n))
    one = let z : 8 * (n - n) ≡ 0 = omega arith in rw z (omega arith)

module _ {o : List ℕ} {n i asked value : ℕ} (A : Asking o n i asked value) where
  -- a byte more still fits
  pub asking_small : (asked < 2 ^ 56) × (value < 2 ^ 56)
  asking_small =
      let s = A.size.holds in
      let l = pow_mono {i = 8 * (n - i)} {j = 56} (omega arith) in
      let m = A.asked_small in
      let v = A.value_small in
      (omega arith, omega arith)

  pub asking_next : {c m : ℕ} → 0 < i → Bytes o → c ≡ fold (get_or o (i - 1) 0) → c < 256 → m ≡ asked_bits c → Asking o n (i - 1) (256 * asked + m) (256 * value + c)
  unfolding word_at
  asking_next {c} {m} more bytes c-is c-small m-is = record {
    size = A.size;
    inside = let l = A.inside in omega arith;
    asked_small = below asked m A.asked_small m_small;
    value_small = below value c A.value_small c-small;
    shows = step;
  }
    where
      m_small : m < 256
      m_small = rw m-is (asked_small c)

      below : (x y : ℕ) → x < 2 ^ (8 * (n - i)) → y < 256 → 256 * x + y < 2 ^ (8 * (n - (i - 1)))
      below x y h l =
          let k = A.inside in
          let z : 8 * (n - (i - 1)) ≡ 8 * (n - i) + 8 = omega arith in
          let e : 2 ^ (8 * (n - i) + 8) ≡ 2 ^ (8 * (n - i)) * 2 ^ 8 = pow-add 2 (8 * (n - i)) 8 in
          rw z (omega arith)

      step : (b : List ℕ) (p width : ℕ) → Bytes b → n - (i - 1) ≤ width → bit_and (bit_xor (word_at b (p + (i - 1)) width) (256 * value + c)) (256 * asked + m) ≡ 0
          → (j : ℕ) → i - 1 ≤ j → j < n → fold (get_or b (p + j) 0) ≡ fold (get_or o j 0)
      step b p zero h l e j from below = absurd (let k = A.inside in omega arith)
      step b p (suc width) h l e j from below = go (same? j (i - 1))
        where
          x : ℕ
          x = get_or b (p + (i - 1)) 0

          next : p + (i - 1) + 1 ≡ p + i
          next = omega arith

          parts : (bit_and (bit_xor (word_at b (p + i) width) value) asked ≡ 0) × (bit_and (bit_xor x c) m ≡ 0)
          parts = none_in_parts (word_at b (p + i) width) value asked x c m (h (p + (i - 1))) c-small m_small (rw next at e)

          own : fold c ≡ c
          own = ap fold c-is ∙ fold_again (get_or o (i - 1) 0) (bytes (i - 1)) ∙ sym c-is

          go : (j ≡ i - 1) ⊎ (j ≡ i - 1 → ⊥) → fold (get_or b (p + j) 0) ≡ fold (get_or o j 0)
          go (inl q) = rw q (asked_folds x c (h (p + (i - 1))) c-small own (ap (bit_and (bit_xor x c)) (sym m-is) ∙ parts.1) ∙ c-is)
          go (inr ne) = A.shows b p width h (omega arith) parts.0 j (omega (arith, ne)) below

  pub asking_end : i ≤ 0 → SureFor o (record { asked = 256 * asked; value = 256 * value })
  unfolding word_at
  asking_end z b p h e j inside below =
      let none : i ≡ 0 = omega arith in
      let s = A.size.holds in
      let w = word_at b (p + 1) sure_size in
      let word : bit_and (bit_xor (get_or b p 0 + 256 * w) (256 * value + 0)) (256 * asked + 0) ≡ 0
      = rw (add-zero (256 * value), add-zero (256 * asked)) (eqb_eq _ 0 e) in
      let parts = none_in_parts w value asked (get_or b p 0) 0 0 (h p) (omega arith) (omega arith) word in
      let q : p + 1 + i ≡ p + 1 = omega arith in
      A.shows b (p + 1) sure_size h (omega arith) (rw q parts.0) j (omega arith) (A.size.no_fewer j inside below)
