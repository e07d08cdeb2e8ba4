-- `put_row` meets its contract. Invariant: the fields of the turns passed are written, the turns that are still due are left.
use Rattle.copy_log.proofs.RowLoop.{RowLoop}
use Rattle.copy_log.proofs.field.put_row.Given as goal

abbrev pub invariant-loop-i : goal.invariant-loop-i
invariant-loop-i l = RowLoop l.turns l.row l.due l.met l.blank l.at l.initial.out l.i-iterator.0 l.end l.out
