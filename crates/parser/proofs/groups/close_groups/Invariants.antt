-- `close_groups` meets its contract. Invariant: where a member stood, one still does.
use Rattle.parser.proofs.GroupLoops.{Kept}
use Rattle.parser.specs.Reading.{Behind}
use Rattle.std.specs.Prelude.{length, ◌-◌}
use Rattle.parser.proofs.groups.close_groups.Given as goal

abbrev pub invariant-loop-here : goal.invariant-loop-here
invariant-loop-here l = Kept Behind l.text l.initial.here l.initial.out l.here l.out

abbrev pub decreases-loop-here : goal.decreases-loop-here
decreases-loop-here l = length l.text - l.here.at
