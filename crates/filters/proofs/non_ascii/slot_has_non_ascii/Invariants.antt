-- `slot_has_non_ascii` meets its contract: the flag tells whether one of the bytes tried so far is from 128 on.
use Rattle.filters.proofs.SomeLaws.{Tried}
use Rattle.filters.specs.NonAscii.{is_non_ascii}
use Rattle.filters.proofs.non_ascii.slot_has_non_ascii.Given as goal

abbrev pub invariant-loop-i : goal.invariant-loop-i
invariant-loop-i l = Tried (is_non_ascii l.b l.p) l.i l.any
