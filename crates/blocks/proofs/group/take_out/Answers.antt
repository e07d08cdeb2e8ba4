-- `take_out` meets its contract: the next word loses its rows.
use Rattle.blocks.proofs.Groups.{none_out, out_next}
use Rattle.std.proofs.Common.{arith, ◌≡◌, length}
use Rattle.blocks.proofs.group.take_out.Goals as goal

pub loop-rows-init : goal.loop-rows-init
loop-rows-init c = none_out _ _

pub loop-rows-preserved : goal.loop-rows-preserved
loop-rows-preserved c = let l = c.loop-rows in out_next l.rows-index c.args.gone l.left c.minus.result _ l.words (omega arith) c.minus.ensures l.invariant

pub returns : goal.returns
returns c =
    let s = c.loop-rows.invariant.size in
    let all : c.loop-rows.rows-index ≡ length c.args.words.now = omega arith in
    rw all at c.loop-rows.invariant
