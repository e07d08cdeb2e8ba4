-- `put_probe` meets its contract: the piece that is written is the field.
use Rattle.fields.proofs.Laws.{be_two}
use Rattle.fields.proofs.OutputLaws.{wrote_same}
use Rattle.std.proofs.Common.{◌∙◌}
use Rattle.task.proofs.Fields.{probe_bytes}
use Rattle.copy_log.proofs.field.put_probe.Goals as goal

pub returns : goal.returns
returns c =
    let a = c.args in
    wrote_same (probe_bytes a.row a.c a.outcome (c.to_be_bytes.ensures ∙ be_two a.row)) c.put.ensures
