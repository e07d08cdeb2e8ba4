-- `is_within_at` meets its contract: the distance from low, wrapped, is not over the width.
use Rattle.numbers.proofs.Within.{within_wraps}
use Rattle.numbers.proofs.is_within_at.Goals as goal

pub returns : goal.returns
returns c = let a = c.args in within_wraps a.low a.width _ _ c.above.ensures.1 c.requires.1 c.above.ensures.0
