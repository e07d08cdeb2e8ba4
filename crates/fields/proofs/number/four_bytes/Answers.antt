-- `four_bytes` meets its contract: std's number of four bytes is the number there.
use Rattle.fields.proofs.Laws.{number_four}
use Rattle.std.proofs.Common.{arith}
use Rattle.fields.proofs.number.four_bytes.Goals as goal

pub returns : goal.returns
returns c = let a = c.args in omega (arith, number_four a.b.now a.at)
