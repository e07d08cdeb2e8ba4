-- `asked_bits` meets its contract.
use Rattle.fronts.proofs.sure.asked_bits.Goals as goal

pub returns-then-is_letter : goal.returns-then-is_letter
returns-then-is_letter c = rw (← c.is_letter.ensures, c.if-is_letter.true)

pub returns-else-is_letter : goal.returns-else-is_letter
returns-else-is_letter c = rw (← c.is_letter.ensures, c.if-is_letter.false)
