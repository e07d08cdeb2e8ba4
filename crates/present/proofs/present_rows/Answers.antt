-- `present_rows` meets its contract: its calls are those of the definition.
use Rattle.std.proofs.Common.{arith}
use Rattle.present.proofs.present_rows.Goals as goal

pub word_at-requires : goal.word_at-requires
word_at-requires c = let block = c.args.base.block in omega (arith, block.whole, block.inside)

pub returns : goal.returns
returns c = rw (c.minus.ensures, c.rows_of-there.ensures, c.word_at.ensures)
