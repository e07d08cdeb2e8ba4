-- `count_each_line` meets its contract. Invariant: the sum is the ones of the lines passed.
use Rattle.bitmaps.proofs.Lines.{line_fits}
use Rattle.bitmaps.specs.Table.{line_size}
use Rattle.counts.proofs.LineOnes.{count_line, lines_next, none_passed, part_short}
use Rattle.std.proofs.Common.{arith, mul-le-mul_right, ◌+◌, ◌-◌, ◌*◌, ◌≡◌}
use Rattle.counts.proofs.lines.count_each_line.Goals as goal

pub loop-c-init : goal.loop-c-init
loop-c-init c = none_passed _ _

pub count_ones-sum-requires : goal.count_ones-sum-requires
count_ones-sum-requires c =
    let a = c.args in
    let f = a.lines in
    let line = (a.first + c.loop-c.c) * line_size in
    let short = part_short f.table.now (f.size - a.i) (a.first * line_size + a.i) c.loop-c.c (line + a.i) (line + f.size) (omega arith) (omega arith) in
    omega (arith, short, f.inside.0)

pub overflow_add-sum : goal.overflow_add-sum
overflow_add-sum c =
    let a = c.args in
    let f = a.lines in
    let l = c.loop-c in
    let line = (a.first + l.c) * line_size in
    let short = part_short f.table.now (f.size - a.i) (a.first * line_size + a.i) l.c (line + a.i) (line + f.size) (omega arith) (omega arith) in
    omega (arith, short, f.inside.0, lines_next l.c (f.size - a.i), line_fits (f.size - a.i) a.n l.c (omega arith), mul-le-mul_right (f.size - a.i) c.requires.0)

pub loop-c-preserved : goal.loop-c-preserved
loop-c-preserved c =
    let a = c.args in
    let f = a.lines in
    let l = c.loop-c in
    let p = a.first * line_size + a.i in
    let line = (a.first + l.c) * line_size in
    let short = part_short f.table.now (f.size - a.i) p l.c (line + a.i) (line + f.size) (omega arith) (omega arith) in (
      count_line f.table.now (f.size - a.i) p l.c (line + a.i) (line + f.size) (omega arith) (omega arith) _ _ l.invariant.0 c.count_ones-sum.ensures.0,
      omega (arith, short, lines_next l.c (f.size - a.i)),
    )

pub returns : goal.returns
returns c = let e : c.loop-c.c ≡ c.args.n = omega arith in rw (← e) (c.loop-c.invariant.0, c.loop-c.invariant.1)
