-- `sets::single`: one shifted by less than 64 loses no bit.
use Rattle.sets.specs.SetLaws.{shift_one}
use Rattle.sets.proofs.single.Goals as goal

pub returns : goal.returns
returns c = shift_one c.args.d c.requires
