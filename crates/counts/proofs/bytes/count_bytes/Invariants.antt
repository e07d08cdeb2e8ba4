-- `count_bytes` meets its contract. Invariant: the sum and the ones of what is left are the ones of the table.
use Rattle.counts.proofs.WordOnes.{BytesPassed}
use Rattle.counts.proofs.bytes.count_bytes.Given as goal

abbrev pub invariant-loop-x : goal.invariant-loop-x
invariant-loop-x l = BytesPassed l.table l.sum l.x-index
