-- `count_seven_lines` meets its contract. Invariant: the sum and the ones of what is left of the lines are the ones of the lines.
use Rattle.bitmaps.specs.Table.{line_size}
use Rattle.counts.proofs.LineOnes.{LeftOfLines}
use Rattle.std.specs.Prelude.{◌*◌}
use Rattle.counts.proofs.lines.count_seven_lines.Given as goal

abbrev pub invariant-loop-w : goal.invariant-loop-w
invariant-loop-w l = LeftOfLines l.lines.table.now (l.first * line_size) l.lines.size l.sum (l.w * 8)
