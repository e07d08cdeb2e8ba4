-- `head` meets its contract: two bytes as one number.
use Rattle.std.proofs.Common.{arith}
use Rattle.words.specs.Words.{word_at}
use Rattle.members.proofs.repeated.head.Goals as goal

pub returns : goal.returns
unfolding word_at
returns c = omega (arith, c.from.ensures, c.from_le_bytes.ensures)
