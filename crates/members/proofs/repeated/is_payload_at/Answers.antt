-- `is_payload_at` meets its contract: by all bytes.
use Rattle.fields.specs.Header.{field_end, header_size}
use Rattle.members.proofs.Repeats.{same_part}
use Rattle.std.specs.Prelude.{◌+◌}
use Rattle.members.proofs.repeated.is_payload_at.Goals as goal

pub returns : goal.returns
returns c = let a = c.args in same_part a.payload.now a.q.now (a.at + header_size) (field_end a.q.now a.at) _ (rw c.field_end-end.ensures at c.same_bytes.ensures)
