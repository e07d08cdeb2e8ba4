-- `count_seven_lines` meets its contract. Invariant: the sum and the ones of what is left of the lines are the ones of the lines.
use Rattle.bitmaps.specs.Table.{line_size}
use Rattle.counts.proofs.LineOnes.{left_all, left_next}
use Rattle.std.proofs.Common.{arith, ◌+◌, ◌*◌, ◌/◌, ◌≡◌}
use Rattle.counts.proofs.lines.count_seven_lines.Goals as goal

pub loop-w-init : goal.loop-w-init
loop-w-init c = let f = c.args.lines in (left_all f.table.now (c.args.first * line_size) f.size 7, omega arith)

pub loop-w-preserved : goal.loop-w-preserved
loop-w-preserved c =
    let f = c.args.lines in
    let i = c.loop-w.w * 8 in
    let z : (c.loop-w.w + 1) * 8 ≡ i + 8 = omega arith in
    rw z (omega (arith, left_next f.table.now (c.args.first * line_size) f.size 7 i (omega arith)), omega arith)

pub returns : goal.returns
returns c =
    let l = c.loop-w in
    let z : l.w ≡ c.args.lines.size / 8 = omega arith in
    let h = rw z at l.invariant.0 in
    (omega (arith, h, c.count_each_line.ensures.0), omega arith)
