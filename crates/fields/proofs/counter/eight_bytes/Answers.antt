-- `eight_bytes` meets its contract: std's number of eight bytes is the number there.
use Rattle.fields.proofs.Laws.{number_eight}
use Rattle.std.proofs.Common.{arith}
use Rattle.fields.proofs.counter.eight_bytes.Goals as goal

pub returns : goal.returns
returns c = let a = c.args in omega (arith, number_eight a.b.now a.at)
