-- `slot_passes` meets its contract: each flag tells whether the pair is at one of the places tried so far.
use Rattle.filters.proofs.SomeLaws.{Tried}
use Rattle.filters.specs.Windows.{in_first, in_second}
use Rattle.filters.proofs.windows.slot_passes.Given as goal

abbrev pub invariant-loop-i : goal.invariant-loop-i
invariant-loop-i l = Tried (in_first l.b l.p l.k) l.i l.front × Tried (in_second l.b l.p l.k) l.i l.back
