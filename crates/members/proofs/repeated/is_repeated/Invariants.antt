-- `is_repeated` meets its contract: none of the predicates from the number left on has the payload, and the others decide.
use Rattle.members.proofs.Repeats.{Unlike}
use Rattle.std.specs.Prelude.{◌≤◌}
use Rattle.members.proofs.repeated.is_repeated.Given as goal

abbrev pub invariant-loop-c : goal.invariant-loop-c
invariant-loop-c l = (l.left ≤ l.earlier.n) × Unlike l.payload l.earlier.q.now l.earlier.offsets.now l.left l.earlier.n

abbrev pub decreases-loop-c : goal.decreases-loop-c
decreases-loop-c l = l.left
