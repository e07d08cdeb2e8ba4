-- `rest` meets its contract: x and x - 1 share all but the lowest number.
use Rattle.sets.specs.KeptLaws.{rest_of}
use Rattle.std.proofs.Common.{arith}
use Rattle.sets.proofs.rest.Goals as goal

pub returns : goal.returns
returns c = rest_of c.args.x c.requires (omega arith)
