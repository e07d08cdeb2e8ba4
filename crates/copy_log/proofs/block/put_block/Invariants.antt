-- `put_block` meets its contract. Invariant: the fields of the rows passed are written.
use Rattle.copy_log.proofs.BlockLoop.{BlockLoop}
use Rattle.copy_log.proofs.block.put_block.Given as goal

abbrev pub invariant-loop-d : goal.invariant-loop-d
invariant-loop-d l = BlockLoop l.turns l.probes.probed.now l.probes.met.now l.blanks l.base.row l.at l.initial.out l.d l.end l.out
