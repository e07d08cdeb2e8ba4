-- `work_rows` meets its contract. Invariant: of the rows before base the tables hold what they are to hold, and nothing of the others.
use Rattle.rows.proofs.RowsLoop.{Blocking}
use Rattle.rows.specs.Ready.{slices}
use Rattle.std.specs.Prelude.{◌-◌}
use Rattle.rows.proofs.all.work_rows.Given as goal

abbrev pub invariant-loop-base : goal.invariant-loop-base
invariant-loop-base l =
    Blocking (slices l.catalogue l.question l.turns l.plan l.ancestors) (record { rows = l.rows; start = l.start; mark = l.mark }) l.withdrawn l.base l.selected l.initial.marks l.marks

abbrev pub decreases-loop-base : goal.decreases-loop-base
decreases-loop-base l = l.rows - l.base
