-- `either_is_loose` meets its contract, by the first byte or the second.
use Rattle.filters.proofs.pair.either_is_loose.Goals as goal

pub returns-then-is_loose : goal.returns-then-is_loose
returns-then-is_loose c = rw (← c.is_loose.ensures, c.if-is_loose.true)

pub returns-else-is_loose : goal.returns-else-is_loose
returns-else-is_loose c = rw (← c.is_loose.ensures, c.if-is_loose.false, c.is_loose-else-is_loose.ensures)
