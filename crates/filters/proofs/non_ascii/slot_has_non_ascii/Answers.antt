-- `slot_has_non_ascii` meets its contract: the flag tells whether one of the bytes tried so far is from 128 on.
use Rattle.sets.proofs.Loops.{byte_bit}
use Rattle.filters.proofs.SomeLaws.{tried_next, tried_none}
use Rattle.heads.proofs.ByteTests.{flag_set}
use Rattle.slots.specs.Slots.{slot_size}
use Rattle.std.proofs.Common.{◌∙◌, arith}
use Rattle.std.specs.Prelude.{◌≡◌}
use Rattle.filters.proofs.non_ascii.slot_has_non_ascii.Goals as goal

pub loop-i-init : goal.loop-i-init
loop-i-init c = tried_none _

pub loop-i-preserved : goal.loop-i-preserved
loop-i-preserved c = tried_next _ c.loop-i.invariant (c.from-any.ensures ∙ byte_bit _)

pub returns : goal.returns
returns c =
    let l = c.loop-i in
    let e : l.i ≡ slot_size = omega arith in
    flag_set _ (rw e at l.invariant.flag)
