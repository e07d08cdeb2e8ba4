-- The numbers below n that a test keeps, gathered into one number: bit d is number d.
use Prim.Native.Nat.{ℕ, zero, suc, ◌+◌, ◌*◌, ◌/◌, ◌%◌, ◌^◌, ◌<◌}
use Rattle.std.proofs.Common.{zero-add, suc-add, zero-mul, one-mul, mul_comm, mul_assoc, pow-suc, ◌∙◌, lit<, shl_exact}
use native.Mathlib.Omega.{arith}
use Rattle.std.specs.Prelude.{◌≡◌, refl, Bool, true, false, ◌&&◌, cond, eqb, ltb}
use Rattle.std.proofs.Math.Path.{sym, ap, ap₂}
use Rattle.std.proofs.Math.Dec.{leb-suc-suc}
use Rattle.std.specs.Int.Bits.{bit_or, or_shifted_r}
use Rattle.bools.specs.Bools.{ltb_yes, ltb_no}
use Rattle.sets.specs.Set.{has, below_set}
use Rattle.sets.specs.SetLaws.{has_half, has_none, has_below}
use Rattle.sets.specs.Kept.{KeptBy}

abbrev pub bit_of : Bool → ℕ
bit_of p = cond p 1 0

unfoldable pub gathered : (P : ℕ → Bool) → (n : ℕ) → ℕ
gathered P zero = 0
gathered P (suc n) = bit_of (P 0) + 2 * gathered (λ d. P (suc d)) n

-- bit d, as the code has it
pub bit_yes : (test : Bool) (d : ℕ) → test ≡ true → d < 32 → 1 * 2 ^ d % 2 ^ 32 ≡ bit_of test * 2 ^ d
bit_yes test d e h = shl_exact {a = 1} 1 d 32 (lit< tt) (omega arith) ∙ ap (λ (p : Bool). bit_of p * 2 ^ d) (sym e)

pub bit_no : (test : Bool) (d : ℕ) → test ≡ false → 0 ≡ bit_of test * 2 ^ d
bit_no test d e = sym (zero-mul (2 ^ d)) ∙ ap (λ (p : Bool). bit_of p * 2 ^ d) (sym e)

bit_small : (p : Bool) → bit_of p < 2
bit_small true = omega arith
bit_small false = omega arith

bit_is : (p : Bool) → eqb (bit_of p) 1 ≡ p
bit_is true = refl
bit_is false = refl

pub gathered_lt : (P : ℕ → Bool) (n : ℕ) → gathered P n < 2 ^ n
unfolding gathered
gathered_lt P zero = omega arith
gathered_lt P (suc n) =
    let e : 2 ^ suc n ≡ 2 ^ n * 2 = pow-suc 2 n in
    let s = bit_small (P 0) in
    let l = gathered_lt (λ d. P (suc d)) n in
    omega arith

has_gathered : (P : ℕ → Bool) (n d : ℕ) → has (gathered P n) d ≡ (ltb d n && P d)
unfolding gathered has
has_gathered P zero d = has_none d ∙ ap (λ (b : Bool). b && P d) (sym (ltb_no d 0 (omega arith)))
has_gathered P (suc n) zero =
    let s = bit_small (P 0) in
    let e : gathered P (suc n) / 2 ^ 0 % 2 ≡ bit_of (P 0) = omega arith in
    ap (λ (z : ℕ). eqb z 1) e ∙ bit_is (P 0) ∙ ap (λ (b : Bool). b && P 0) (sym (ltb_yes 0 (suc n) (omega arith)))
has_gathered P (suc n) (suc d) =
    let s = bit_small (P 0) in
    let e : gathered P (suc n) / 2 ≡ gathered (λ c. P (suc c)) n = omega arith in
    has_half (gathered P (suc n)) d ∙ ap (λ (z : ℕ). has z d) e ∙ has_gathered (λ c. P (suc c)) n d ∙ ap (λ (b : Bool). b && P (suc d)) (sym (leb-suc-suc (suc d) n))

-- it is what is kept of all numbers below n
pub gathered_kept : (P : ℕ → Bool) (n : ℕ) → KeptBy P (below_set n) (gathered P n)
gathered_kept P n d = has_gathered P n d ∙ ap (λ (b : Bool). b && P d) (sym (has_below n d))

pub gathered_same : (P Q : ℕ → Bool) (n : ℕ) → ((d : ℕ) → P d ≡ Q d) → gathered P n ≡ gathered Q n
unfolding gathered
gathered_same P Q zero e = refl
gathered_same P Q (suc n) e = ap₂ (λ (p : Bool) (g : ℕ). bit_of p + 2 * g) (e 0) (gathered_same (λ d. P (suc d)) (λ d. Q (suc d)) n (λ d. e (suc d)))

-- the first m, and the n after them
pub gathered_cat : (P : ℕ → Bool) (m n : ℕ) → gathered P (m + n) ≡ gathered P m + 2 ^ m * gathered (λ d. P (m + d)) n
unfolding gathered
gathered_cat P zero n =
    ap (gathered P) (zero-add n) ∙ gathered_same P (λ d. P (0 + d)) n (λ d. ap P (sym (zero-add d))) ∙ sym (zero-add _ ∙ one-mul _)
gathered_cat P (suc m) n =
    ap (gathered P) (suc-add m n) ∙ ap (λ (x : ℕ). bit_of (P 0) + 2 * x) (gathered_cat (λ d. P (suc d)) m n)
    ∙ step (bit_of (P 0)) (gathered (λ d. P (suc d)) m) (2 ^ m * gathered (λ d. P (suc (m + d))) n) (2 ^ suc m * gathered (λ d. P (suc m + d)) n) twice
  where
    twice : 2 ^ suc m * gathered (λ d. P (suc m + d)) n ≡ 2 * (2 ^ m * gathered (λ d. P (suc (m + d))) n)
    twice =
        ap₂ (λ (x y : ℕ). x * y) (pow-suc 2 m ∙ mul_comm (2 ^ m) 2) (gathered_same (λ d. P (suc m + d)) (λ d. P (suc (m + d))) n (λ d. ap P (suc-add m d)))
        ∙ mul_assoc 2 (2 ^ m) (gathered (λ d. P (suc (m + d))) n)

    step : (b a x y : ℕ) → y ≡ 2 * x → b + 2 * (a + x) ≡ b + 2 * a + y
    step b a x y e = omega arith

-- a loop up through the numbers: none is gathered yet, and one more, where `bit` is what a test answers at k, moved to
-- its place
pub gathered_none : (P : ℕ → Bool) → 0 ≡ gathered P 0
unfolding gathered
gathered_none P = refl

pub gathered_next : (P : ℕ → Bool) (k : ℕ) {p : Bool} {met bit : ℕ} → met ≡ gathered P k → bit ≡ bit_of p * 2 ^ k → p ≡ P k → bit_or met bit ≡ gathered P (k + 1)
unfolding gathered
gathered_next P k {p} {met} {bit} g e f =
    let s = gathered_lt P k in
    let b : bit ≡ bit_of (P k) * 2 ^ k = e ∙ ap (λ (q : Bool). bit_of q * 2 ^ k) f in
    let z : k + 0 ≡ k = omega arith in
    ap (bit_or met) b ∙ or_shifted_r (bit_of (P k)) k met (omega arith) ∙ sum (bit_of (P k)) (2 ^ k) g
    ∙ sym (gathered_cat P k 1 ∙ ap (λ (j : ℕ). gathered P k + 2 ^ k * (bit_of (P j) + 0)) z)
  where
    sum : (q m : ℕ) {g : ℕ} → met ≡ g → q * m + met ≡ g + m * (q + 0)
    sum q m {g} e = rw (mul_comm q m) (omega arith)

-- r holds the 32 numbers from `from` on at which a test passes, as the bits of 32
abbrev pub HalfWhere : (answers : ℕ → Bool → Type 0) → (from r : ℕ) → Type 0
HalfWhere answers from r = (P : ℕ → Bool) → ((d : ℕ) (p : Bool) → d < 32 → answers (from + d) p → p ≡ P (from + d)) → r ≡ gathered (λ d. P (from + d)) 32

-- all 64 from the halves
pub halves_joined : (P : ℕ → Bool) {x y : ℕ} → x ≡ gathered (λ d. P (0 + d)) 32 → y ≡ gathered (λ d. P (32 + d)) 32 → KeptBy P (below_set 64) (x + 4294967296 * y)
halves_joined P e f =
    let first = e ∙ gathered_same (λ d. P (0 + d)) P 32 (λ d. ap P (zero-add d)) in
    rw (ap₂ (λ (p q : ℕ). p + 4294967296 * q) first f ∙ sym (gathered_cat P 32 32)) (gathered_kept P 64)
