-- A full adder over the bits of words: the ones of three words are those of the sum and twice those of the carry.
use Prim.Native.Nat.{ℕ, zero, suc, ◌+◌, ◌*◌, ◌^◌, ◌<◌}
use native.Mathlib.Omega.{arith}
use mathlib.Core.Path.{◌≡◌, refl, ap, ap₂, ◌∙◌}
use mathlib.Core.Bool.{Bool, true, false, ◌&&◌, ◌||◌, xor}
use lib.Bits.{bit_and, bit_or, bit_xor, and_lt, or_lt, xor_lt}
use lib.Count.{ones}
use Rattle.sets.specs.Set.{has}
use Rattle.sets.specs.SetLaws.{has_and, has_or, has_xor}
use Rattle.bitmaps.specs.Sums.{sum_of, digit, count_of}
use Rattle.bitmaps.proofs.SumLaws.{count_same}
use Rattle.bitmaps.proofs.BitLaws.{ones_has}

abbrev sum_bit : Bool → Bool → Bool → Bool
sum_bit a b c = xor (xor a b) c

abbrev carry_bit : Bool → Bool → Bool → Bool
carry_bit a b c = (a && b) || (xor a b && c)

bits_added : (a b c : Bool) → digit a + digit b + digit c ≡ digit (sum_bit a b c) + 2 * digit (carry_bit a b c)
unfolding xor
bits_added true true true = refl
bits_added true true false = refl
bits_added true false true = refl
bits_added true false false = refl
bits_added false true true = refl
bits_added false true false = refl
bits_added false false true = refl
bits_added false false false = refl

counts_added : (f g h : ℕ → Bool) (n : ℕ) → count_of f n + count_of g n + count_of h n ≡ count_of (λ d. sum_bit (f d) (g d) (h d)) n + 2 * count_of (λ d. carry_bit (f d) (g d) (h d)) n
unfolding sum_of
counts_added f g h zero = refl
counts_added f g h (suc n) = omega (arith, counts_added f g h n, bits_added (f n) (g n) (h n))

module _ (k x y z : ℕ) where
  abbrev sum : ℕ
  sum = bit_xor (bit_xor x y) z

  abbrev carry : ℕ
  carry = bit_or (bit_and x y) (bit_and (bit_xor x y) z)

  sum_has : (d : ℕ) → has sum d ≡ sum_bit (has x d) (has y d) (has z d)
  sum_has d = has_xor (bit_xor x y) z d ∙ ap (λ (b : Bool). xor b (has z d)) (has_xor x y d)

  carry_has : (d : ℕ) → has carry d ≡ carry_bit (has x d) (has y d) (has z d)
  carry_has d =
      has_or (bit_and x y) (bit_and (bit_xor x y) z) d
      ∙ ap₂ ◌||◌ (has_and x y d) (has_and (bit_xor x y) z d ∙ ap (λ (b : Bool). b && has z d) (has_xor x y d))

  pub words_added : x < 2 ^ k → y < 2 ^ k → z < 2 ^ k → ones x + ones y + ones z ≡ ones sum + 2 * ones carry
  words_added p q r =
      let e = xor_lt k x y p q in
      let s = xor_lt k (bit_xor x y) z e r in
      let t = or_lt k (bit_and x y) (bit_and (bit_xor x y) z) (and_lt k x y p q) (and_lt k (bit_xor x y) z e r) in
      let l : count_of (has sum) k ≡ count_of (λ d. sum_bit (has x d) (has y d) (has z d)) k = count_same (has sum) (λ d. sum_bit (has x d) (has y d) (has z d)) k (λ d i. sum_has d) in
      let h : count_of (has carry) k ≡ count_of (λ d. carry_bit (has x d) (has y d) (has z d)) k = count_same (has carry) (λ d. carry_bit (has x d) (has y d) (has z d)) k (λ d i. carry_has d) in
      rw (ones_has k x p, ones_has k y q, ones_has k z r, ones_has k sum s, ones_has k carry t, l, h) (counts_added (has x) (has y) (has z) k)
