-- `put_block` meets its contract: both tables are gathered, then the fields of one row more are written.
use Rattle.copy_log.proofs.BlockLoop.{block_next, block_start, row_room}
use Rattle.std.proofs.Common.{arith}
use Rattle.copy_log.proofs.block.put_block.Goals as goal

pub loop-d-init : goal.loop-d-init
loop-d-init c = block_start _ _ _ _ _ _ _

pub put_row-end-requires-clause-blank_in_bounds : goal.put_row-end-requires-clause-blank_in_bounds
put_row-end-requires-clause-blank_in_bounds c = row_room c.loop-d.invariant c.gather-dues.ensures c.gather-mets.ensures (omega arith) (omega arith) c.requires.count_in_bounds

pub loop-d-preserved : goal.loop-d-preserved
loop-d-preserved c =
    block_next c.loop-d.invariant c.gather-dues.ensures c.gather-mets.ensures (omega arith) (omega arith) c.requires.count_in_bounds (omega arith) c.put_row-end.ensures
