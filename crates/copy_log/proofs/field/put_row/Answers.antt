-- `put_row` meets its contract: the field of the next turn that is due is written.
use Rattle.copy_log.proofs.RowLoop.{next_room, row_end, row_next, row_start}
use Rattle.std.proofs.Common.{ap, arith}
use mir.Val.{bool_byte}
use Rattle.copy_log.proofs.field.put_row.Goals as goal

pub loop-i-init : goal.loop-i-init
loop-i-init c = rw c.into_iter-i-iterator.ensures.into_iter_gives (row_start _ _ _ _ _ _ _)

pub put_probe-end-requires : goal.put_probe-end-requires
put_probe-end-requires c = next_room c.loop-i.invariant c.in-Some.ensures.steps.0 c.requires.has_turns c.requires.blank_in_bounds

pub loop-i-preserved : goal.loop-i-preserved
loop-i-preserved c =
    let taken = c.in-Some.ensures.steps in
    row_next c.loop-i.invariant taken.0 c.requires.has_turns c.requires.blank_in_bounds c.from.ensures
    (ap bool_byte c.has.ensures) (ap bool_byte c.has-in-loop-i.ensures)
    taken.1 (omega arith) c.put_probe-end.ensures

pub returns : goal.returns
returns c = row_end c.loop-i.invariant c.in-None.ensures.steps.0
