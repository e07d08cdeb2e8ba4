-- `equals` meets its contract: two texts of one length are equal where one begins with the other.
use borrow.Author.Tests.{ne_eqb}
use Rattle.predicate.proofs.TextLaws.{equals_begins, equals_other}
use Rattle.predicate.proofs.text.equals.Goals as goal

pub returns-else-text-operand : goal.returns-else-text-operand
returns-else-text-operand c = rw (ne_eqb _ _ c.if-text-operand.false) (equals_other _ _ c.if-text-operand.false)

pub returns-then-text-operand : goal.returns-then-text-operand
returns-then-text-operand c = equals_begins _ _ _ c.if-text-operand.true c.begins_with.ensures
