-- `slots_are_valid` meets its contract. The invariant: the stray bits seen and the slots left from p on decide the answer.
use Rattle.slots.proofs.Slots.{Seen}
use Rattle.slots.specs.Slots.{slot_size}
use Rattle.std.specs.Prelude.{length, ◌*◌, ◌+◌, ◌≤◌}
use Rattle.slots.proofs.slot.slots_are_valid.Given as goal

abbrev pub invariant-loop-left : goal.invariant-loop-left
invariant-loop-left l = (l.p + slot_size * l.left ≤ length l.b) × Seen l.b l.at l.n l.p l.left l.x l.y l.z

abbrev pub decreases-loop-left : goal.decreases-loop-left
decreases-loop-left l = l.left
