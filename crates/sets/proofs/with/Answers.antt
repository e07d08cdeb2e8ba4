-- `sets::with`: from what `single` ensures.
use Rattle.std.proofs.Common.{ap}
use Rattle.std.specs.Int.Bits.{bit_or}
use Rattle.sets.proofs.with.Goals as goal

pub returns : goal.returns
returns c = ap (bit_or c.args.x) c.single.ensures
