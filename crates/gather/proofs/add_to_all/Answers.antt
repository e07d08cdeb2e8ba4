-- `add_to_all` meets its contract: after the last row each of the block has the turn.
use Rattle.gather.proofs.Adding.{all_end}
use Rattle.std.proofs.Common.{arith}
use Rattle.gather.proofs.add_to_all.Goals as goal

pub returns : goal.returns
returns c = all_end c.args.i c.loop-row.invariant (omega arith)
