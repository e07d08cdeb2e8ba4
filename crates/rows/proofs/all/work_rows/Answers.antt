-- `work_rows` meets its contract. Invariant: of the rows before base the tables hold what they are to hold, and nothing of the others.
use Rattle.rows.proofs.RowsLoop.{block_in, block_no_marks, block_ready, block_room, blocking_end, blocking_next, blocking_start}
use Rattle.std.proofs.Common.{arith, sym, ◌∙◌}
use borrow.Author.Rules.{rules}
use Rattle.rows.proofs.all.work_rows.Goals as goal

pub withdrawn_line-withdrawn-requires : goal.withdrawn_line-withdrawn-requires
withdrawn_line-withdrawn-requires c =
    let p = c.requires.rows_ready in
    let m = p.3.mark in
    (m.inside, omega (arith, m.short, p.2.short))

pub loop-base-init : goal.loop-base-init
loop-base-init c = let p = c.requires.has_no_bits in blocking_start c.withdrawn_line-withdrawn.ensures p.0 p.1

pub invariant_of-present_rows : goal.invariant_of-present_rows
invariant_of-present_rows c =
    let p = c.requires.rows_ready in
    record { block = (block_in c.loop-base.invariant c.loop-base-test.true p.2 p.3).block }

pub work_block-found-requires : goal.work_block-found-requires
work_block-found-requires c =
    let l = c.loop-base.invariant in
    let t = c.loop-base-test.true in
    let p = c.requires.rows_ready in
    let e = c.present_rows-part.ensures in
    (rw e (block_ready l t p), rw e (block_no_marks l t p))

pub put_word-requires : goal.put_word-requires
put_word-requires c = block_room c.loop-base.invariant c.loop-base-test.true c.requires.rows_ready

pub loop-base-preserved : goal.loop-base-preserved
loop-base-preserved c =
    let w = c.work_block-found in
    blocking_next c.loop-base.invariant c.loop-base-test.true w.result c.put_word.new.table w.new.marks w.auto.marks
    (rw c.present_rows-part.ensures at w.ensures) c.put_word.ensures

pub shape_of-selected : goal.shape_of-selected
shape_of-selected c = c.loop-base.invariant.selected_size ∙ sym (search rules)

pub shape_of-marks : goal.shape_of-marks
shape_of-marks c = c.loop-base.invariant.sized

pub returns : goal.returns
returns c = blocking_end c.loop-base-test.false c.loop-base.invariant

-- behind the last block
pub returns-2 : goal.returns-2
returns-2 c =
    let w = c.work_block-found in
    blocking_end (omega arith)
    (blocking_next c.loop-base.invariant c.loop-base-test.true w.result c.put_word.new.table w.new.marks w.auto.marks
    (rw c.present_rows-part.ensures at w.ensures) c.put_word.ensures)
