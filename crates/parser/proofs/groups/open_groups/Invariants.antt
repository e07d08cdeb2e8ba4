-- `open_groups` meets its contract. Invariant: where a member was expected, one still is.
use Rattle.parser.proofs.GroupLoops.{Kept}
use Rattle.parser.specs.Reading.{Expecting}
use Rattle.std.specs.Prelude.{length, ◌-◌}
use Rattle.parser.proofs.groups.open_groups.Given as goal

abbrev pub invariant-loop-group : goal.invariant-loop-group
invariant-loop-group l = Kept Expecting l.text l.initial.here l.initial.out l.here l.out

abbrev pub decreases-loop-group : goal.decreases-loop-group
decreases-loop-group l = length l.text - l.here.at
