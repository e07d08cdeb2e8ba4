-- The digits of a number: enough steps are enough, one digit more, and how many there are.
use Prim.Native.Nat.{ℕ, zero, suc, ◌+◌, ◌/◌, ◌%◌, ◌^◌, ◌≤◌, ◌<◌}
use native.Mathlib.Nat.{pow-succ'}
use native.Mathlib.Omega.{arith}
use mathlib.Core.Path.{◌≡◌, refl, ap}
use mathlib.Core.List.{List, [], ◌∷◌, ◌++◌}
use lib.ListN.{length, length-append}
use Rattle.fields.specs.Decimal.{digits, digits_of, decimal}

digits_same : (a b x : ℕ) → x < a → x < b → digits a x ≡ digits b x
unfolding digits
digits_same zero b x l m = absurd (omega arith)
digits_same (suc a) zero x l m = absurd (omega arith)
digits_same (suc a) (suc b) zero l m = refl
digits_same (suc a) (suc b) (suc x) l m =
    ap (λ (d : List ℕ). d ++ ((48 + suc x % 10) ∷ [])) (digits_same a b (suc x / 10) (omega arith) (omega arith))

-- the last digit stands behind the digits of a tenth
pub digits_more : (x : ℕ) → 0 < x → digits_of x ≡ digits_of (x / 10) ++ ((48 + x % 10) ∷ [])
unfolding digits
digits_more zero l = absurd (omega arith)
digits_more (suc x) l =
    ap (λ (d : List ℕ). d ++ ((48 + suc x % 10) ∷ [])) (digits_same (suc x) (suc (suc x / 10)) (suc x / 10) (omega arith) (omega arith))

pub digits_none : digits_of 0 ≡ []
unfolding digits
digits_none = refl

pub decimal_zero : decimal 0 ≡ 48 ∷ []
unfolding decimal
decimal_zero = refl

pub decimal_more : (x : ℕ) → 0 < x → decimal x ≡ digits_of x
unfolding decimal
decimal_more zero l = absurd (omega arith)
decimal_more (suc x) l = refl

-- a number below 10 ^ k has at most k digits
pub digits_few : (k steps x : ℕ) → x < 10 ^ k → length (digits steps x) ≤ k
unfolding digits
digits_few k zero x l = omega arith
digits_few k (suc s) zero l = omega arith
digits_few zero (suc s) (suc x) l = absurd (omega arith)
digits_few (suc k) (suc s) (suc x) l =
    omega (arith, length-append (digits s (suc x / 10)) ((48 + suc x % 10) ∷ []), digits_few k s (suc x / 10) (omega (arith, pow-succ' 10 k)))
