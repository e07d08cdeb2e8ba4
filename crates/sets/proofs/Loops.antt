-- Loops through the numbers below 64 counted by hand, and what their steps gather: from the last number down, from the
-- first up, and the number at hand of a set. `all_in_turn` goes down by these laws; the other loops of src/ state what
-- they gather by an equation, and these laws say of any such loop that it gathers the same.
use Rattle.std.proofs.Common.{ℕ, suc, ◌+◌, ◌-◌, ◌*◌, ◌^◌, ◌≤◌, ◌<◌, ◌≡◌, Bool, true, false, refl, sym, ap, ap₂, ◌∙◌, zero-add, mul-add, mul_comm, pow_mono, pow-suc, arith}
use Rattle.std.specs.Int.Bits.{bit_or, or_shifted_r}
use mir.Val.{bool_byte}
use Rattle.sets.specs.Set.{below_set}
use Rattle.sets.specs.Kept.{KeptBy}
use Rattle.sets.specs.Gathered.{bit_of, gathered, gathered_same, gathered_lt, gathered_cat, gathered_kept}

-- a loop down through the 64 numbers: those from k on are gathered
pub record Gathering (P : ℕ → Bool) (k met : ℕ) : Type 0 where
  pub inside : k ≤ 64
  pub gathered_is : met ≡ gathered (λ d. P (k + d)) (64 - k)

pub gathering_none : (P : ℕ → Bool) → Gathering P 64 0
unfolding gathered
gathering_none P = record { inside = omega arith; gathered_is = refl }

module _ {P : ℕ → Bool} {k met : ℕ} (G : Gathering P k met) where
  pub gathering_end : k ≡ 0 → KeptBy P (below_set 64) met
  gathering_end e =
      let m : met ≡ gathered (λ d. P (0 + d)) 64 = rw e at G.gathered_is in
      let s = gathered_same (λ d. P (0 + d)) P 64 (λ d. ap P (zero-add d)) in
      rw (m ∙ s) (gathered_kept P 64)

  module _ (more : 0 < k) where
    pub gathering_small : met < 2 ^ 63
    gathering_small =
        let g = gathered_lt (λ d. P (k + d)) (64 - k) in
        let e = G.gathered_is in
        let m = pow_mono {i = 64 - k} {j = 63} (omega arith) in
        omega arith

    pub gathering_next : {bit : ℕ} → bit ≡ bit_of (P (k - 1)) → Gathering P (k - 1) (met + met + bit)
    unfolding gathered
    gathering_next {bit} f = record {
      inside = let l = G.inside in omega arith;
      gathered_is =
          let l = G.inside in
          let n : 64 - (k - 1) ≡ suc (64 - k) = omega arith in
          let z : k - 1 + 0 ≡ k - 1 = omega arith in
          let s = gathered_same (λ d. P (k + d)) (λ d. P (k - 1 + suc d)) (64 - k) (λ d. ap P (omega arith)) in
          let first : bit ≡ bit_of (P (k - 1 + 0)) = f ∙ ap (λ (j : ℕ). bit_of (P j)) (sym z) in
          sum met bit (gathered (λ d. P (k - 1 + suc d)) (64 - k)) (bit_of (P (k - 1 + 0))) (G.gathered_is ∙ s) first ∙ ap (gathered (λ d. P (k - 1 + d))) (sym n);
    }
      where
        sum : (x y u v : ℕ) → x ≡ u → y ≡ v → x + x + y ≡ v + 2 * u
        sum x y u v e f = omega arith

-- an answer made a number by std
pub byte_bit : (p : Bool) → bool_byte p ≡ bit_of p
byte_bit true = refl
byte_bit false = refl

-- what is gathered from k on has 64 - k bits, whatever a test answers: one bit more at each number
pub doubled_small : (p : Bool) (k : ℕ) {met bit : ℕ} → met < 2 ^ (64 - k) → bit ≡ bit_of p → 0 < k → k ≤ 64 → met + met + bit < 2 ^ (64 - (k - 1))
doubled_small p k {met} {bit} s e l m =
    let b = few p in
    let n : 64 - (k - 1) ≡ suc (64 - k) = omega arith in
    let q : 2 ^ suc (64 - k) ≡ 2 ^ (64 - k) * 2 = pow-suc 2 (64 - k) in
    rw (ap (λ (j : ℕ). 2 ^ j) n ∙ q) (omega arith)
  where
    few : (p : Bool) → bit_of p < 2
    few true = omega arith
    few false = omega arith

-- a loop up through 32 numbers: those below k are gathered
pub record Rising (P : ℕ → Bool) (k met : ℕ) : Type 0 where
  pub inside : k ≤ 32
  pub gathered_is : met ≡ gathered P k

pub rising_none : (P : ℕ → Bool) → Rising P 0 0
unfolding gathered
rising_none P = record { inside = omega arith; gathered_is = refl }

module _ {P : ℕ → Bool} {k met : ℕ} (R : Rising P k met) where
  -- n is k at the width of a byte, p the test's answer
  pub rising_next : {p : Bool} (n : ℕ) {bit : ℕ} → k < 32 → n ≡ k → bit ≡ bit_of p * 2 ^ n → p ≡ P k → Rising P (k + 1) (bit_or met bit)
  unfolding gathered
  rising_next {p} n {bit} l w e f = record {
    inside = omega arith;
    gathered_is =
        let g = R.gathered_is in
        let s = gathered_lt P k in
        let b : bit ≡ bit_of (P k) * 2 ^ k = e ∙ ap₂ (λ (q : Bool) (j : ℕ). bit_of q * 2 ^ j) f w in
        let z : k + 0 ≡ k = omega arith in
        ap (bit_or met) b ∙ or_shifted_r (bit_of (P k)) k met (omega arith) ∙ sum (bit_of (P k)) (2 ^ k) g
        ∙ sym (gathered_cat P k 1 ∙ ap (λ (j : ℕ). gathered P k + 2 ^ k * (bit_of (P j) + 0)) z);
  }
    where
      sum : (q m : ℕ) {g : ℕ} → met ≡ g → q * m + met ≡ g + m * (q + 0)
      sum q m {g} e = rw (mul_comm q m) (omega arith)

  pub rising_end : 32 ≤ k → met ≡ gathered P 32
  rising_end l = let i = R.inside in let e : k ≡ 32 = omega arith in R.gathered_is ∙ ap (gathered P) e

-- a block from its halves: what T tests stands from `start` on, `size` bytes for each row
pub halves_kept : (T : ℕ → Bool) (size start base : ℕ) {x y : ℕ} → x ≡ gathered (λ d. T (start + size * base + size * d)) 32 → y ≡ gathered (λ d. T (start + size * base + size * 32 + size * d)) 32
    → KeptBy (λ d. T (start + size * (base + d))) (below_set 64) (x + 4294967296 * y)
halves_kept T size start base {x} {y} e f =
    let s = e ∙ gathered_same _ (λ d. T (start + size * (base + d))) 32 (λ d. ap T (omega (arith, mul-add size base d))) in
    let t = f ∙ gathered_same _ (λ d. T (start + size * (base + (32 + d)))) 32 (λ d. ap T (omega (arith, mul-add size base (32 + d), mul-add size 32 d))) in
    let z : x + 4294967296 * y ≡ gathered (λ d. T (start + size * (base + d))) 64 =
    ap₂ (λ (p q : ℕ). p + 4294967296 * q) s t ∙ sym (gathered_cat (λ d. T (start + size * (base + d))) 32 32) in
    rw z (gathered_kept (λ d. T (start + size * (base + d))) 64)
