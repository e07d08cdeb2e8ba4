-- `put_four_bytes` meets its contract: the piece that is written is the bytes of the number.
use Rattle.fields.proofs.Laws.{be_four}
use Rattle.fields.proofs.OutputLaws.{wrote_same}
use Rattle.std.proofs.Common.{◌∙◌}
use Rattle.fields.proofs.number.put_four_bytes.Goals as goal

pub returns : goal.returns
returns c = wrote_same (c.to_be_bytes.ensures ∙ be_four c.args.x) c.put.ensures
