-- `word_at` meets its contract: std's number of eight bytes is the word.
use Rattle.std.proofs.Common.{arith}
use Rattle.words.proofs.WordLaws.{word_eight}
use Rattle.words.proofs.word_at.Goals as goal

pub returns : goal.returns
returns c = let a = c.args in omega (arith, word_eight a.b.now a.at)
