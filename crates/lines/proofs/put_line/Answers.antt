-- `put_line` meets its contract: label, number and byte 10, one behind the other.
use Rattle.lines.specs.LineLaws.{line_end}
use Rattle.std.proofs.Common.{arith}
use Rattle.lines.proofs.put_line.Goals as goal

pub returns : goal.returns
returns c = (line_end _ (omega arith) c.put-number.ensures c.put_number-end.ensures.0 c.put.ensures, omega arith)
