-- `half_at` meets its contract: std's number of four bytes is the half.
use Rattle.std.proofs.Common.{arith}
use Rattle.words.proofs.WordLaws.{word_four}
use Rattle.words.proofs.half_at.Goals as goal

pub returns : goal.returns
returns c =
    let a = c.args in
    (omega (arith, word_four a.b.now a.at), omega arith)
