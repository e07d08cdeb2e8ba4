-- `put_eight_bytes` meets its contract: the piece that is written is the bytes of the number.
use Rattle.fields.proofs.Laws.{be_eight}
use Rattle.fields.proofs.OutputLaws.{wrote_same}
use Rattle.std.proofs.Common.{◌∙◌}
use Rattle.fields.proofs.counter.put_eight_bytes.Goals as goal

pub returns : goal.returns
returns c = (wrote_same (c.to_be_bytes.ensures ∙ be_eight c.args.x) c.put.ensures).bytes
