-- `rows_of_no` meets its contract: all due rows, or the noes alone.
use Rattle.blanks.proofs.Blanks.{noes_all, noes_alone}
use Rattle.blanks.proofs.rows_of_no.Goals as goal

pub returns-then-due-below : goal.returns-then-due-below
returns-then-due-below c = noes_all _ _

pub returns : goal.returns
returns c = rw c.minus.ensures (noes_alone _ _)
