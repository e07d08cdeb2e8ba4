-- A pair in the windows of a slot: what is there is seen, and the loop over both windows.
use Prim.Native.Nat.{ℕ, ◌+◌, ◌-◌, ◌≤◌, ◌<◌}
use native.Mathlib.Omega.{arith}
use mathlib.Core.Path.{◌≡◌, ap₂, ◌∙◌}
use mathlib.Core.Bool.{true, false, not}
use mathlib.Core.Logic.{◌⊎◌, inl, inr}
use mathlib.Core.List.{List}
use lib.Dec.{eqb, ltb}
use lib.Bits.{bit_or}
use Rattle.bools.specs.Bools.{which, or_left, or_right, ltb_lt, ltb_le}
use Rattle.slots.specs.Slots.{text_limit}
use Rattle.filters.specs.declared.pair.Pair.{Pair}
use Rattle.filters.specs.Some.{some_below}
use Rattle.filters.specs.Windows.{InReach, pair_at, in_first, in_second, windows_pass}
use Rattle.filters.proofs.SomeLaws.{Tried, some_there}
use Rattle.heads.proofs.ByteTests.{either_flag, flag_set}

pub near_gap : {size i j : ℕ} → InReach size i j → j - i ≤ 8
near_gap R = omega (arith, R.after, R.near)

-- a pair at place a of the text is in the first window, or, where it begins late, in the second
pub windows_see : (b : List ℕ) (p a : ℕ) (k : Pair) → a + k.gap < text_limit → k.gap ≤ 8 → pair_at b (p + 1 + a) (p + 1 + a + k.gap) k ≡ true → windows_pass b p k ≡ true
windows_see b p a k l near e = go (which (ltb a 15))
  where
    go : (ltb a 15 ≡ true) ⊎ (ltb a 15 ≡ false) → windows_pass b p k ≡ true
    go (inl f) =
        let h : a < 15 = ltb_lt a 15 f in
        let x : p + (1 + a) ≡ p + 1 + a = omega arith in
        let y : p + k.gap + (1 + a) ≡ p + 1 + a + k.gap = omega arith in
        or_left (some_below (in_second b p k) 16) (some_there (in_first b p k) 16 (1 + a) (omega arith) (ap₂ (λ (i j : ℕ). pair_at b i j k) x y ∙ e))
    go (inr f) =
        let h : 15 ≤ a = ltb_le a 15 f in
        let i = 1 + a + k.gap - 8 in
        let x : p + 8 - k.gap + i ≡ p + 1 + a = omega arith in
        let y : p + 8 + i ≡ p + 1 + a + k.gap = omega arith in
        or_right (some_below (in_first b p k) 16) (some_there (in_second b p k) 16 i (omega arith) (ap₂ (λ (i j : ℕ). pair_at b i j k) x y ∙ e))

-- all 16 places of both windows are tried
pub windows_tried : (b : List ℕ) (p : ℕ) (k : Pair) {front back : ℕ} → Tried (in_first b p k) 16 front → Tried (in_second b p k) 16 back → not (eqb (bit_or front back) 0) ≡ windows_pass b p k
windows_tried b p k F B = flag_set (windows_pass b p k) (either_flag (some_below (in_first b p k) 16) (some_below (in_second b p k) 16) F.flag B.flag)
