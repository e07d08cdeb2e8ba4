-- A test of the first n numbers: where one passes it is seen, and a loop keeps it as a flag.
use Prim.Native.Nat.{ℕ, zero, suc, ◌+◌, ◌<◌}
use native.Mathlib.Omega.{arith}
use mathlib.Core.Path.{◌≡◌, refl, sym, ap, ◌∙◌}
use mathlib.Core.Bool.{Bool, true, cond}
use mathlib.Core.Logic.{◌⊎◌, inl, inr}
use lib.Bits.{bit_or}
use Rattle.bools.specs.Bools.{or_left, or_right, same?}
use Rattle.filters.specs.Some.{some_below}
use Rattle.heads.proofs.ByteTests.{either_flag}

-- i numbers are tried: `any` tells whether one of them passes
pub record Tried (test : ℕ → Bool) (i any : ℕ) : Type 0 where
  pub flag : any ≡ cond (some_below test i) 1 0

module _ (test : ℕ → Bool) where
  pub some_there : (n i : ℕ) → i < n → test i ≡ true → some_below test n ≡ true
  unfolding some_below
  some_there zero i h e = absurd (omega arith)
  some_there (suc n) i h e =
      let go : (i ≡ n) ⊎ (i ≡ n → ⊥) → some_below test (suc n) ≡ true
      = elim [ inl q ↦ or_right (some_below test n) (ap test (sym q) ∙ e) | inr ne ↦ or_left (test n) (some_there n i (omega arith) e) ] in
      go (same? i n)

  pub tried_none : Tried test 0 0
  unfolding some_below
  tried_none = record { flag = refl }

  pub tried_next : {i any x : ℕ} → Tried test i any → x ≡ cond (test i) 1 0 → Tried test (i + 1) (bit_or any x)
  unfolding some_below
  tried_next {i} T e = let n : i + 1 ≡ suc i = omega arith in record { flag = rw n (either_flag (some_below test i) (test i) T.flag e) }
