-- `close_groups` meets its contract. Invariant: where a member stood, one still does.
use Rattle.parser.proofs.GroupLoops.{closing_more, closing_place, kept_start}
use Rattle.parser.specs.Reading.{Behind}
use Rattle.std.proofs.Common.{arith}
use Rattle.parser.proofs.groups.close_groups.Goals as goal

pub loop-here-init : goal.loop-here-init
loop-here-init c = kept_start Behind _ _ _ c.requires

pub two_bytes-outer-requires : goal.two_bytes-outer-requires
two_bytes-outer-requires c = omega (arith, closing_place c.loop-here.invariant c.loop-here-test.true)

pub overflow_add-size : goal.overflow_add-size
overflow_add-size c = omega (arith, closing_place c.loop-here.invariant c.loop-here-test.true)

pub overflow_sub-size : goal.overflow_sub-size
overflow_sub-size c = (closing_place c.loop-here.invariant c.loop-here-test.true).0

pub put_two_bytes-requires : goal.put_two_bytes-requires
put_two_bytes-requires c = omega (arith, closing_place c.loop-here.invariant c.loop-here-test.true)

pub loop-here-preserved : goal.loop-here-preserved
loop-here-preserved c =
    closing_more c.loop-here.invariant c.loop-here-test.true c.if-here-text.true c.if-text-here-eq-CLOSING.true
    c.two_bytes-outer.ensures.0 c.put_two_bytes.ensures
