-- `first` meets its contract: the digits below the lowest set one are counted.
use Rattle.sets.specs.KeptLaws.{first_of}
use Rattle.std.proofs.Common.{arith}
use lib.Count.{trailing_le}
use Rattle.sets.proofs.first.Goals as goal

pub overflow_cast-result : goal.overflow_cast-result
overflow_cast-result c = omega (arith, trailing_le 64 c.args.x)

pub returns : goal.returns
returns c = first_of c.args.x c.requires (omega arith)
