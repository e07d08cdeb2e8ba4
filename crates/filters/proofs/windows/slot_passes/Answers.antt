-- `slot_passes` meets its contract: each flag tells whether the pair is at one of the places tried so far.
use Rattle.filters.proofs.Pairs.{windows_tried}
use Rattle.filters.proofs.SomeLaws.{tried_next, tried_none}
use Rattle.std.proofs.Common.{arith}
use Rattle.std.specs.Prelude.{◌≡◌}
use Rattle.filters.proofs.windows.slot_passes.Goals as goal

pub loop-i-init : goal.loop-i-init
loop-i-init c = (tried_none _, tried_none _)

pub loop-i-preserved : goal.loop-i-preserved
loop-i-preserved c =
    let l = c.loop-i.invariant in
    (tried_next _ l.0 c.pair_at-front.ensures, tried_next _ l.1 c.pair_at-back.ensures)

pub returns : goal.returns
returns c =
    let a = c.args in
    let l = c.loop-i in
    let e : l.i ≡ 16 = omega arith in
    windows_tried a.b.now a.p a.k (rw e at l.invariant.0) (rw e at l.invariant.1)
