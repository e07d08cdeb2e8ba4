-- `work_block` meets its contract. Invariant: at every row of the block the turns left make of it what all make of it.
use Rattle.bitmaps.proofs.TableLaws.{zeros}
use Rattle.query.specs.Format.{predicate_limit}
use Rattle.rows.proofs.BlockLoop.{in_words, turn_ancestors, turn_few, turn_mark, turn_outcomes, turning_end, turning_idle, turning_next, turning_start}
use Rattle.std.proofs.Common.{length-set, sym, ◌∙◌}
use Rattle.std.specs.Prelude.{replicate}
use borrow.Author.Rules.{rules}
use Rattle.rows.proofs.block.work_block.Goals as goal

pub loop-turn-init : goal.loop-turn-init
loop-turn-init c =
    turning_start (replicate predicate_limit 0) c.fill.new.live c.args.marks.now (zeros predicate_limit) (search rules) c.fill.ensures c.requires.1

pub bounds-live-c : goal.bounds-live-c
bounds-live-c c = turn_few c.loop-turn.invariant c.from-c.result c.from-c.ensures c.loop-turn-test.true c.requires.0

pub loop-turn-preserved-then-due-eq0 : goal.loop-turn-preserved-then-due-eq0
loop-turn-preserved-then-due-eq0 c = turning_idle c.loop-turn.invariant c.from-c.result c.from-c.ensures c.loop-turn-test.true c.if-due-eq0.true

pub bounds-plan-c : goal.bounds-plan-c
bounds-plan-c c = turn_few c.loop-turn.invariant c.from-c.result c.from-c.ensures c.loop-turn-test.true c.requires.0

pub met_of-met-requires : goal.met_of-met-requires
met_of-met-requires c =
    let p = c.requires in
    let e = p.0 in
    let l = c.loop-turn.invariant in
    let w = c.from-c in
    turn_outcomes l w.result w.ensures c.loop-turn-test.true e

pub mark-requires : goal.mark-requires
mark-requires c =
    let w = c.from-c in
    turn_mark c.loop-turn.invariant w.result w.ensures c.loop-turn-test.true c.requires.0 c.requires.1

pub bounds-live-c-in-loop-turn : goal.bounds-live-c-in-loop-turn
bounds-live-c-in-loop-turn c = turn_few c.loop-turn.invariant c.from-c.result c.from-c.ensures c.loop-turn-test.true c.requires.0

pub slice_bounds-propagate_rows-end : goal.slice_bounds-propagate_rows-end
slice_bounds-propagate_rows-end c = let l = c.loop-turn in sym (length-set l.live c.from-c.result 0 ∙ l.invariant.words)

pub propagate_rows-passed-requires : goal.propagate_rows-passed-requires
propagate_rows-passed-requires c =
    let w = c.from-c in
    let l = c.loop-turn in
    turn_ancestors l.invariant w.result w.ensures c.loop-turn-test.true c.requires.0 _ (length-set l.live w.result 0 ∙ l.invariant.words)

pub loop-turn-preserved : goal.loop-turn-preserved
loop-turn-preserved c =
    let l = c.loop-turn in
    let w = c.from-c in
    let p = c.propagate_rows-passed in
    let few = turn_few l.invariant w.result w.ensures c.loop-turn-test.true c.requires.0 in
    turning_next l.invariant w.result w.ensures c.loop-turn-test.true c.met_of-met.result p.result p.new.live c.mark.new.marks (in_words few l.invariant.words)
    c.met_of-met.ensures c.mark.ensures p.ensures

pub shape_of-marks : goal.shape_of-marks
shape_of-marks c = c.loop-turn.invariant.sized

pub returns : goal.returns
returns c = turning_end c.loop-turn.invariant c.loop-turn-test.false
