-- `put_rows` meets its contract: the fields of one block more are written, with the blanks that were gathered for it.
use Rattle.log_rows.proofs.RowsLoop.{block_room, rows_end, rows_next, rows_start}
use Rattle.std.proofs.Common.{arith}
use Rattle.log_rows.proofs.all.put_rows.Goals as goal

pub loop-row-init : goal.loop-row-init
loop-row-init c = rows_start _ _ _ _ _ _ _

pub put_block-at-requires-clause-count_in_bounds : goal.put_block-at-requires-clause-count_in_bounds
put_block-at-requires-clause-count_in_bounds c =
    let R = c.requires in
    block_room c.loop-row.invariant c.loop-row-test.true c.min-count.ensures _ c.gather_blanks-blanks.ensures R.0 R.1 R.2

pub loop-row-preserved : goal.loop-row-preserved
loop-row-preserved c =
    rows_next c.loop-row.invariant c.loop-row-test.true c.min-count.ensures _ c.gather_blanks-blanks.ensures (omega arith) c.put_block-at.ensures

pub returns : goal.returns
returns c = rows_end c.loop-row.invariant (omega arith)

-- behind the last block
pub returns-2 : goal.returns-2
returns-2 c = rows_end (rows_next c.loop-row.invariant c.loop-row-test.true c.min-count.ensures _ c.gather_blanks-blanks.ensures (omega arith) c.put_block-at.ensures) (omega arith)
