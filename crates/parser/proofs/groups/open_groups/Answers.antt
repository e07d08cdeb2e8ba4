-- `open_groups` meets its contract. Invariant: where a member was expected, one still is.
use Rattle.parser.proofs.GroupLoops.{kept_start, opening_more, opening_room}
use Rattle.parser.specs.Reading.{Expecting}
use Rattle.std.proofs.Common.{arith}
use Rattle.parser.proofs.groups.open_groups.Goals as goal

pub loop-group-init : goal.loop-group-init
loop-group-init c = kept_start Expecting _ _ _ c.requires

pub put_header-next-requires : goal.put_header-next-requires
put_header-next-requires c =
    let begins = c.in-Some.ensures in
    opening_room c.loop-group.invariant begins.0 begins.2

pub overflow_add-here : goal.overflow_add-here
overflow_add-here c =
    let begins = c.in-Some.ensures in
    omega (arith, opening_room c.loop-group.invariant begins.0 begins.2)

pub loop-group-preserved : goal.loop-group-preserved
loop-group-preserved c =
    let begins = c.in-Some.ensures in
    opening_more c.loop-group.invariant begins.0 begins.2 begins.1 c.put_header-next.ensures
