-- Membership in sets made by bit operations, and sets that have the same members.
use Rattle.std.specs.Prelude.{ℕ, zero, suc, ◌-◌, ◌*◌, ◌/◌, ◌%◌, ◌^◌, ◌≤◌, ◌<◌, ◌≡◌, refl, Bool, true, false, not, ◌&&◌, ◌||◌, cond, eqb, ltb}
use Rattle.std.proofs.Common.{one-mul, mod-lt, pow-suc, one-add, arith, sym, ap, ◌∙◌, true≢false, lit<, pow_pos, pow_mono, shl_exact, shr-shr}
use Rattle.std.proofs.Math.Nat.{zero-div, div-eq_of_lt}
use Rattle.std.proofs.Math.Path.{fun_ext}
use Rattle.std.proofs.Math.Bool.{xor}
use Rattle.std.proofs.lemmas.Bool.{false≢true}
use Rattle.std.proofs.Math.Dec.{leb-suc-suc, eqb-suc-suc}
use Rattle.std.proofs.Math.Pow.{pow-lt}
use Rattle.std.specs.Int.Bits.{bit_and, bit_or, bit_xor}
use Rattle.std.proofs.lemmas.Nat.{and_mask, and_shr, and_mod, or_lt, or_shr, or_mod, xor_shr, xor_mod}
use Rattle.bools.specs.Bools.{eqb_ne, ltb_yes, ltb_no}
use Rattle.sets.specs.Set.{has, one_set, below_set, set_minus, set_with}

-- one bit of each
and_bits : (a b : ℕ) → a < 2 → b < 2 → eqb (bit_and a b) 1 ≡ (eqb a 1 && eqb b 1)
and_bits zero b h k = refl
and_bits (suc zero) zero h k = refl
and_bits (suc zero) (suc zero) h k = refl
and_bits (suc zero) (suc (suc b)) h k = absurd (omega arith)
and_bits (suc (suc a)) b h k = absurd (omega arith)

or_bits : (a b : ℕ) → a < 2 → b < 2 → eqb (bit_or a b) 1 ≡ (eqb a 1 || eqb b 1)
or_bits zero b h k = refl
or_bits (suc zero) zero h k = refl
or_bits (suc zero) (suc zero) h k = refl
or_bits (suc zero) (suc (suc b)) h k = absurd (omega arith)
or_bits (suc (suc a)) b h k = absurd (omega arith)

xor_bits : (a b : ℕ) → a < 2 → b < 2 → eqb (bit_xor a b) 1 ≡ xor (eqb a 1) (eqb b 1)
unfolding xor
xor_bits zero zero h k = refl
xor_bits zero (suc zero) h k = refl
xor_bits zero (suc (suc b)) h k = absurd (omega arith)
xor_bits (suc zero) zero h k = refl
xor_bits (suc zero) (suc zero) h k = refl
xor_bits (suc zero) (suc (suc b)) h k = absurd (omega arith)
xor_bits (suc (suc a)) b h k = absurd (omega arith)

-- a law of bits carried to members: `shift` moves the operation to the bit's place, `last` to the bit
bitwise : (o : ℕ → ℕ → ℕ) (p : Bool → Bool → Bool) → ((x y d : ℕ) → o x y / 2 ^ d ≡ o (x / 2 ^ d) (y / 2 ^ d))
    → ((x y : ℕ) → o x y % 2 ≡ o (x % 2) (y % 2)) → ((a b : ℕ) → a < 2 → b < 2 → eqb (o a b) 1 ≡ p (eqb a 1) (eqb b 1))
    → (x y d : ℕ) → has (o x y) d ≡ p (has x d) (has y d)
unfolding has
bitwise o p shift last bits x y d =
    ap (λ (z : ℕ). eqb (z % 2) 1) (shift x y d) ∙ ap (λ (z : ℕ). eqb z 1) (last (x / 2 ^ d) (y / 2 ^ d))
    ∙ bits (x / 2 ^ d % 2) (y / 2 ^ d % 2) (mod-lt (x / 2 ^ d) (omega arith)) (mod-lt (y / 2 ^ d) (omega arith))

pub has_and : (x y d : ℕ) → has (bit_and x y) d ≡ (has x d && has y d)
has_and = bitwise bit_and (λ p q. p && q) and_shr (λ x y. and_mod x y 1) and_bits

pub has_or : (x y d : ℕ) → has (bit_or x y) d ≡ (has x d || has y d)
has_or = bitwise bit_or (λ p q. p || q) or_shr (λ x y. or_mod x y 1) or_bits

pub has_xor : (x y d : ℕ) → has (bit_xor x y) d ≡ xor (has x d) (has y d)
has_xor = bitwise bit_xor xor xor_shr (λ x y. xor_mod x y 1) xor_bits

-- a bit above the first is a bit of the half
pub has_half : (x d : ℕ) → has x (suc d) ≡ has (x / 2) d
unfolding has
has_half x d = ap (λ (z : ℕ). eqb (z % 2) 1) (ap (λ (k : ℕ). x / 2 ^ k) (sym (one-add d)) ∙ sym (shr-shr x 1 d))

minus_bit : (x m : Bool) → xor x (x && m) ≡ cond m false x
unfolding xor
minus_bit true true = refl
minus_bit true false = refl
minus_bit false true = refl
minus_bit false false = refl

pub minus_has : (x m d : ℕ) → has (set_minus x m) d ≡ cond (has m d) false (has x d)
minus_has x m d =
    has_xor x (bit_and x m) d ∙ ap (xor (has x d)) (has_and x m d) ∙ minus_bit (has x d) (has m d)

pub minus_and : (x m d : ℕ) → has (set_minus x m) d ≡ (has x d && not (has m d))
minus_and x m d = minus_has x m d ∙ go (has x d) (has m d)
  where
    go : (p q : Bool) → cond q false p ≡ (p && not q)
    go true true = refl
    go true false = refl
    go false true = refl
    go false false = refl

pub has_none : (d : ℕ) → has 0 d ≡ false
unfolding has
has_none d = ap (λ (z : ℕ). eqb (z % 2) 1) (zero-div (2 ^ d))

pub empty_has : has 0 ≡ (λ d. false)
empty_has = fun_ext has_none

pub has_below : (n d : ℕ) → has (below_set n) d ≡ ltb d n
unfolding has
has_below zero d = has_none d ∙ sym (ltb_no d 0 (omega arith))
has_below (suc n) zero =
    let e : 2 ^ suc n ≡ 2 ^ n * 2 = pow-suc 2 n in
    let p : 0 < 2 ^ n = pow_pos n in
    let q : (2 ^ suc n - 1) / 2 ^ 0 % 2 ≡ 1 = omega arith in
    ap (λ (z : ℕ). eqb z 1) q ∙ sym (ltb_yes 0 (suc n) (omega arith))
has_below (suc n) (suc d) =
    let e : 2 ^ suc n ≡ 2 ^ n * 2 = pow-suc 2 n in
    let p : 0 < 2 ^ n = pow_pos n in
    let q : (2 ^ suc n - 1) / 2 ≡ 2 ^ n - 1 = omega arith in
    has_half (2 ^ suc n - 1) d ∙ ap (λ (z : ℕ). has z d) q ∙ has_below n d ∙ sym (leb-suc-suc (suc d) n)

pub below_has : (n d : ℕ) → d < n → has (below_set n) d ≡ true
below_has n d l = has_below n d ∙ ltb_yes d n l

pub has_one : (c d : ℕ) → has (one_set c) d ≡ eqb d c
unfolding has
has_one zero zero = refl
has_one zero (suc d) = has_half 1 d ∙ has_none d ∙ sym (eqb_ne (suc d) 0 (λ e. omega arith))
has_one (suc c) zero =
    let e : 2 ^ suc c ≡ 2 ^ c * 2 = pow-suc 2 c in
    let q : 2 ^ suc c / 2 ^ 0 % 2 ≡ 0 = omega arith in
    ap (λ (z : ℕ). eqb z 1) q ∙ sym (eqb_ne 0 (suc c) (λ e. omega arith))
has_one (suc c) (suc d) =
    let e : 2 ^ suc c ≡ 2 ^ c * 2 = pow-suc 2 c in
    let q : 2 ^ suc c / 2 ≡ 2 ^ c = omega arith in
    has_half (2 ^ suc c) d ∙ ap (λ (z : ℕ). has z d) q ∙ has_one c d ∙ sym (eqb-suc-suc d c)

-- sets with the same members are the same number
pub same_set : (k x y : ℕ) → x < 2 ^ k → y < 2 ^ k → ((d : ℕ) → has x d ≡ has y d) → x ≡ y
unfolding has
same_set zero x y h k e = omega arith
same_set (suc n) x y h k e =
    let p : 2 ^ suc n ≡ 2 ^ n * 2 = pow-suc 2 n in
    let halves : x / 2 ≡ y / 2 = same_set n (x / 2) (y / 2) (omega arith) (omega arith) (λ d. sym (has_half x d) ∙ e (suc d) ∙ has_half y d) in
    let bits : x / 2 ^ 0 % 2 ≡ y / 2 ^ 0 % 2 = bit (x / 2 ^ 0 % 2) (y / 2 ^ 0 % 2) (mod-lt (x / 2 ^ 0) (omega arith)) (mod-lt (y / 2 ^ 0) (omega arith)) (e 0) in
    omega arith
  where
    bit : (a b : ℕ) → a < 2 → b < 2 → eqb a 1 ≡ eqb b 1 → a ≡ b
    bit zero zero l m q = refl
    bit zero (suc zero) l m q = absurd (false≢true q)
    bit zero (suc (suc b)) l m q = absurd (omega arith)
    bit (suc zero) zero l m q = absurd (true≢false q)
    bit (suc zero) (suc zero) l m q = refl
    bit (suc zero) (suc (suc b)) l m q = absurd (omega arith)
    bit (suc (suc a)) b l m q = absurd (omega arith)

-- a set below `2 ^ n` holds only numbers below `n`
pub has_high : (n x d : ℕ) → x < 2 ^ n → n ≤ d → has x d ≡ false
unfolding has
has_high n x d h l = ap (λ (z : ℕ). eqb (z % 2) 1) (div-eq_of_lt {n = x} {m = 2 ^ d} (omega (arith, pow_mono {i = n} {j = d} l)))

pub with_lt : (n x c : ℕ) → x < 2 ^ n → c < n → set_with x c < 2 ^ n
with_lt n x c h l = or_lt n x (one_set c) h (pow-lt {i = c} {j = n} l)

pub below_lt : (n : ℕ) → below_set n < 2 ^ n
below_lt n = omega (arith, pow_pos n)

-- the steps of the code
pub bit_has : (x d : ℕ) → eqb (bit_and (x / 2 ^ d) 1) 1 ≡ has x d
unfolding has
bit_has x d = ap (λ (m : ℕ). eqb m 1) (and_mask (x / 2 ^ d) 1)

pub shift_one : (d : ℕ) → d < 64 → 1 * 2 ^ d % 2 ^ 64 ≡ one_set d
shift_one d h = shl_exact {a = 1} 1 d 64 (lit< tt) (omega arith) ∙ one-mul (2 ^ d)
