-- `write_accepted` meets its contract: the five parts, one behind the other.
use Rattle.register.specs.RegisterLaws.{accepted_end}
use Rattle.std.proofs.Common.{arith}
use Rattle.register.proofs.text.write_accepted.Goals as goal

pub put_conditions-requires : goal.put_conditions-requires
put_conditions-requires c = (omega arith, rw c.bytes_for.ensures c.requires.1, omega arith)

pub returns : goal.returns
returns c =
    accepted_end _ _ _ _ _ _ c.bytes_for.ensures (omega arith) c.put_header-found_line.ensures c.put_line-entry_lines.ensures.0
    c.put_entries-looks_line.ensures.0 c.put_line-condition_lines.ensures.0 c.put_conditions.ensures.0
