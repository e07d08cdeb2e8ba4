-- `put_two_bytes` meets its contract: the piece that is written is the bytes of the number.
use Rattle.fields.proofs.Laws.{be_two}
use Rattle.fields.proofs.OutputLaws.{wrote_same}
use Rattle.std.proofs.Common.{◌∙◌}
use Rattle.fields.proofs.number.put_two_bytes.Goals as goal

pub returns : goal.returns
returns c = wrote_same (c.to_be_bytes.ensures ∙ be_two c.args.x) c.put.ensures
