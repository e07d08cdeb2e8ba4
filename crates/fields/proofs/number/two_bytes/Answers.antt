-- `two_bytes` meets its contract: std's number of two bytes is the number there.
use Rattle.fields.proofs.Laws.{number_two}
use Rattle.std.proofs.Common.{arith}
use Rattle.fields.proofs.number.two_bytes.Goals as goal

pub returns : goal.returns
returns c = let a = c.args in (omega (arith, number_two a.b.now a.at), omega arith)
