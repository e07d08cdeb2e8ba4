-- `sets::below`: the power of two less one; at 64, which no shift gives, the constant is that number.
use Rattle.sets.specs.Set.{below_set}
use Rattle.sets.specs.SetLaws.{shift_one}
use Rattle.std.proofs.Common.{ap, arith, pow_pos, sym}
use Rattle.std.specs.Prelude.{ℕ, ◌-◌}
use Rattle.sets.proofs.below.Goals as goal

pub overflow_sub-result : goal.overflow_sub-result
overflow_sub-result c = omega (arith, shift_one c.args.n (omega arith), pow_pos c.args.n)

pub returns-then-n-eq64 : goal.returns-then-n-eq64
returns-then-n-eq64 c = ap below_set (sym c.if-n-eq64.true)

pub returns-else-n-eq64 : goal.returns-else-n-eq64
returns-else-n-eq64 c = ap (λ (k : ℕ). k - 1) (shift_one c.args.n (omega arith))
