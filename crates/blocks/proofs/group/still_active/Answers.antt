-- `still_active` meets its contract: the next word takes its rows from `left`; where none is left, none is at the end.
use Rattle.blocks.proofs.Groups.{none_early, none_next, none_yet}
use Rattle.std.proofs.Common.{arith, ◌+◌, ◌≡◌, length}
use Rattle.blocks.proofs.group.still_active.Goals as goal

pub loop-rows-init : goal.loop-rows-init
loop-rows-init c = none_yet _ _

pub returns-then-left-eq0 : goal.returns-then-left-eq0
returns-then-left-eq0 c =
    let l = c.loop-rows in
    none_early 0 (l.rows-index + 1) _ _ _ _ (omega arith) c.if-left-eq0.true (none_next _ _ _ _ _ c.minus-left.ensures l.invariant)

pub loop-rows-preserved : goal.loop-rows-preserved
loop-rows-preserved c = none_next _ _ _ _ _ c.minus-left.ensures c.loop-rows.invariant

pub returns : goal.returns
returns c =
    let all : c.loop-rows.rows-index ≡ length c.args.words.now = omega arith in
    rw all at c.loop-rows.invariant
