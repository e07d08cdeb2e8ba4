-- `half_where` meets its contract: at d, the numbers below d are gathered, whatever P says of the answers.
use Rattle.std.proofs.Common.{◌≡◌, arith}
use Rattle.sets.specs.Gathered.{gathered_next, gathered_none}
use Rattle.sets.proofs.half_where.Goals as goal

pub loop-d-init : goal.loop-d-init
loop-d-init g c P A = gathered_none _

pub loop-d-preserved : goal.loop-d-preserved
loop-d-preserved g c P A = gathered_next _ _ (c.loop-d.invariant P A) c.bit_at-met.ensures (A _ _ (omega arith) c.test.ensures)

pub returns : goal.returns
returns g c P A = let e : c.loop-d.d ≡ 32 = omega arith in rw e at (c.loop-d.invariant P A)
