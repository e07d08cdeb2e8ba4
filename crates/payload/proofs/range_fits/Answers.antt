-- `range_fits` meets its contract: each return is the value of `range_fits` at the tests that led there.
use Rattle.fields.proofs.Tests.{tests}
use Rattle.predicate.specs.Payload.{range_fits}
use Rattle.payload.proofs.range_fits.Goals as goal

pub returns-then-operand-ne-RANGE_SIZE : goal.returns-then-operand-ne-RANGE_SIZE
unfolding range_fits
returns-then-operand-ne-RANGE_SIZE c = search tests

pub returns-then-low-high : goal.returns-then-low-high
unfolding range_fits
returns-then-low-high c = search (tests, ← c.four_bytes-low.ensures, ← c.four_bytes-high.ensures)

pub returns-else-low-high : goal.returns-else-low-high
unfolding range_fits
returns-else-low-high c = search (tests, ← c.four_bytes-low.ensures, ← c.four_bytes-high.ensures)
