-- `put_entries` meets its contract. Invariant: the lines of the rows passed are written.
use Rattle.fields.specs.Output.{Wrote}
use Rattle.register.specs.Register.{entries}
use Rattle.register.specs.Writing.{entry_room}
use Rattle.std.specs.Prelude.{◌*◌, ◌+◌, ◌≤◌}
use Rattle.register.proofs.text.put_entries.Given as goal

abbrev pub invariant-loop-row : goal.invariant-loop-row
invariant-loop-row l = Wrote l.at (entries l.listed l.row) l.initial.out l.end l.out × (l.end ≤ l.at + entry_room * l.row)
