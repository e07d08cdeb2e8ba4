-- `count_lines` meets its contract. Invariant: the sum is the ones of the lines passed.
use Rattle.counts.proofs.LineOnes.{LinesPassed}
use Rattle.std.specs.Prelude.{◌*◌}
use Rattle.counts.proofs.lines.count_lines.Given as goal

abbrev pub invariant-loop-s : goal.invariant-loop-s
invariant-loop-s l = LinesPassed l.lines.table.now l.lines.size l.sum (l.s * 7)
