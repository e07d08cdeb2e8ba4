-- `put_condition` meets its contract: label, number, space, number and byte 10.
use Rattle.register.specs.RegisterLaws.{condition_end}
use Rattle.std.proofs.Common.{arith}
use Rattle.register.proofs.text.put_condition.Goals as goal

pub returns : goal.returns
returns c = (condition_end _ _ (omega arith) c.put-number.ensures c.put_number-end.ensures.0 c.put_line.ensures.0, omega arith)
