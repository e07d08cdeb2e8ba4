-- `put_head` meets its contract: a header, and the column and the kind behind it.
use Rattle.conditions.proofs.FieldReads.{head_written}
use Rattle.fields.proofs.OutputLaws.{wrote_same, wrote_then}
use Rattle.fields.specs.Numbers.{bytes_of}
use Rattle.std.proofs.Common.{arith}
use Rattle.conditions.proofs.condition.put_head.Goals as goal

pub put-requires : goal.put-requires
unfolding bytes_of
put-requires c = omega (arith, c.requires, c.put_header-payload.ensures.place, c.put_header-payload.auto.out)

pub returns : goal.returns
unfolding bytes_of
returns c =
    let a = c.args in
    let header = c.put_header-payload.ensures in
    wrote_same (head_written a.size a.column a.kind) (wrote_then (omega (arith, c.requires, header.place)) header c.put.ensures)
