-- `put_entry` meets its contract: a line where the bit is one, else nothing.
use Rattle.register.specs.RegisterLaws.{entry_listed, entry_not}
use Rattle.std.proofs.Common.{arith, sym, ◌∙◌}
use Rattle.register.proofs.text.put_entry.Goals as goal

pub returns-then-is_marked : goal.returns-then-is_marked
returns-then-is_marked c = (entry_listed _ (sym c.is_marked.ensures ∙ c.if-is_marked.true) c.put_line.ensures.0, omega arith)

pub returns : goal.returns
returns c = (entry_not _ (sym c.is_marked.ensures ∙ c.if-is_marked.false), omega arith)
