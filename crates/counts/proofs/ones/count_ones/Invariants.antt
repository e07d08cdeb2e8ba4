-- `count_ones` meets its contract. Invariant: the sum and the ones of what is left are the ones of the table.
use Rattle.counts.proofs.WordOnes.{BytesPassed}
use Rattle.std.specs.Prelude.{◌*◌}
use Rattle.counts.proofs.ones.count_ones.Given as goal

abbrev pub invariant-loop-word : goal.invariant-loop-word
invariant-loop-word l = BytesPassed l.table l.sum (l.word-index * 8)
