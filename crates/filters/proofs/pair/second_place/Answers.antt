-- `second_place` meets its contract: each place that is tried is in reach.
use Rattle.std.proofs.Common.{arith}
use Rattle.filters.proofs.pair.second_place.Goals as goal

pub returns-then-not-is_loose : goal.returns-then-not-is_loose
returns-then-not-is_loose c =
    let r = c.last_place-last.ensures in
    record { after = omega arith; inside = omega (arith, r.inside); near = omega (arith, r.near) }
