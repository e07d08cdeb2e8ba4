-- `is_within` meets its contract: one comparison is two.
use Rattle.numbers.proofs.Within.{within_wraps}
use Rattle.std.proofs.Common.{arith}
use Rattle.numbers.proofs.is_within.Goals as goal

pub returns : goal.returns
returns c = let a = c.args in within_wraps a.low a.width a.n _ (omega arith) c.requires c.wrapping_sub_u32.ensures.value
