-- `sets::has`: the bit shifted to the front and masked is the member test.
use Rattle.sets.specs.SetLaws.{bit_has}
use Rattle.sets.proofs.has.Goals as goal

pub returns : goal.returns
returns c = bit_has c.args.x c.args.d
