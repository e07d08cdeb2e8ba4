-- `put_conditions` meets its contract. Invariant: the lines of the conditions passed are written.
use Rattle.fields.specs.Output.{Wrote}
use Rattle.register.specs.Register.{conditions}
use Rattle.register.specs.Writing.{condition_room}
use Rattle.std.specs.Prelude.{◌*◌, ◌+◌, ◌≤◌}
use Rattle.register.proofs.text.put_conditions.Given as goal

abbrev pub invariant-loop-c : goal.invariant-loop-c
invariant-loop-c l = Wrote l.at (conditions l.looks l.size l.c) l.initial.out l.end l.out × (l.end ≤ l.at + condition_room * l.c)
