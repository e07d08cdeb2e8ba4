-- `put_number` meets its contract: "0", or the digits.
use Rattle.lines.specs.LineLaws.{digits_length, number_more, number_zero}
use Rattle.std.proofs.Common.{arith}
use Rattle.lines.proofs.put_number.Goals as goal

pub returns-then-x-eq0 : goal.returns-then-x-eq0
returns-then-x-eq0 c = (number_zero c.if-x-eq0.true c.put.ensures, omega arith)

pub put_digits-requires : goal.put_digits-requires
put_digits-requires c = omega (arith, digits_length c.args.x (omega arith))

pub returns : goal.returns
returns c = (number_more (omega arith) c.put_digits.ensures, omega (arith, digits_length c.args.x (omega arith), c.put_digits.ensures.place))
