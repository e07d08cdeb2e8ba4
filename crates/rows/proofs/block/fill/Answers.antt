-- `fill` meets its contract. Invariant: the predicates of start that are not to come any more are live.
use Rattle.sets.specs.ChangedLaws.{change_end, change_next, change_start}
use Rattle.std.proofs.Common.{arith, refl}
use Rattle.rows.proofs.block.fill.Goals as goal

pub loop-c-init : goal.loop-c-init
loop-c-init c =
    let a = c.args in
    rw c.into_iter-c-iterator.ensures.into_iter_gives (change_start (λ word. a.rows) a.start a.live.now)

pub loop-c-preserved : goal.loop-c-preserved
loop-c-preserved c =
    let taken = c.in-Some.ensures.steps in
    change_next c.loop-c.invariant c.from.result c.from.ensures taken.0 taken.1 (omega arith) refl

pub returns : goal.returns
returns c = change_end c.loop-c.invariant c.in-None.ensures.steps.0
