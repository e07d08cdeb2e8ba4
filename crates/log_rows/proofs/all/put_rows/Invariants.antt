-- `put_rows` meets its contract. Invariant: the log of the rows passed is written.
use Rattle.log_rows.proofs.RowsLoop.{RowsLoop}
use Rattle.std.specs.Prelude.{◌-◌}
use Rattle.log_rows.proofs.all.put_rows.Given as goal

abbrev pub invariant-loop-row : goal.invariant-loop-row
invariant-loop-row l =
    let P = l.probes in
    RowsLoop l.catalogue l.plan P.turns.now P.probed.now P.met.now l.rows l.initial.out l.row l.at l.out

abbrev pub decreases-loop-row : goal.decreases-loop-row
decreases-loop-row l = l.rows - l.row
