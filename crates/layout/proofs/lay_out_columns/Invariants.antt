-- `lay_out_columns` meets its contract. The invariant is `Reading`: the layout shows the columns read so far, and the rest decides.
use Rattle.layout.proofs.Columns.{Reading}
use Rattle.layout.proofs.lay_out_columns.Given as goal

abbrev pub invariant-loop-i : goal.invariant-loop-i
invariant-loop-i l = Reading l.b l.rows l.columns l.first l.tags l.starts l.at l.i
