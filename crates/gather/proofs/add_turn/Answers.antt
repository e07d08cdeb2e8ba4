-- `add_turn` meets its contract. Invariant: the rows of the word that are not to come any more have the turn.
use Rattle.gather.proofs.Adding.{all_of}
use Rattle.sets.specs.ChangedLaws.{change_end, change_next, change_start}
use Rattle.sets.specs.Set.{set_with}
use Rattle.std.proofs.Common.{arith}
use Rattle.gather.proofs.add_turn.Goals as goal

pub returns-then-word-below : goal.returns-then-word-below
returns-then-word-below c =
    all_of c.args.i c.if-word-below.true c.below.ensures c.add_to_all.ensures

pub loop-d-init : goal.loop-d-init
loop-d-init c =
    let a = c.args in
    rw c.into_iter-d-iterator.ensures.into_iter_gives (change_start (λ s. set_with s a.i) a.word a.gathered.now)

pub loop-d-preserved : goal.loop-d-preserved
loop-d-preserved c =
    let taken = c.in-Some.ensures.steps in
    change_next c.loop-d.invariant c.from-d.result c.from-d.ensures taken.0 taken.1 (omega arith) c.with.ensures

pub returns : goal.returns
returns c = change_end c.loop-d.invariant c.in-None.ensures.steps.0
