-- `sure_of` meets its contract: the bytes put together, the last one first.
use Rattle.fronts.proofs.SureLaws.{Asking}
use Rattle.fronts.proofs.sure.sure_of.Given as goal

abbrev pub invariant-loop-i : goal.invariant-loop-i
invariant-loop-i l = Asking l.operand l.size l.i l.asked l.value
