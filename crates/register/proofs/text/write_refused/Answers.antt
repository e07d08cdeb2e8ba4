-- `write_refused` meets its contract: the first line, and the refusal behind it.
use Rattle.register.specs.RegisterLaws.{refused_end}
use Rattle.std.proofs.Common.{arith}
use Rattle.register.proofs.text.write_refused.Goals as goal

pub returns : goal.returns
returns c = refused_end _ (omega arith) c.put_header-next.ensures c.put_line.ensures.0
