-- `count_each_line` meets its contract. Invariant: the sum is the ones of the lines passed.
use Rattle.bitmaps.specs.Table.{line_size}
use Rattle.counts.proofs.LineOnes.{LinesPassed}
use Rattle.std.specs.Prelude.{◌+◌, ◌-◌, ◌*◌, drop}
use Rattle.counts.proofs.lines.count_each_line.Given as goal

abbrev pub invariant-loop-c : goal.invariant-loop-c
invariant-loop-c l = LinesPassed (drop (l.first * line_size + l.i) l.lines.table.now) (l.lines.size - l.i) l.sum l.c
