-- `rows_of` meets its contract, by `rows_are`.
use Rattle.bitmaps.proofs.WordLaws.{rows_are}
use Rattle.std.proofs.Common.{arith}
use Rattle.bitmaps.proofs.word.rows_of.Goals as goal

pub returns : goal.returns
returns c = rows_are _ c.args.left (omega arith) c.below.ensures
