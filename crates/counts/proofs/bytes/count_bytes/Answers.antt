-- `count_bytes` meets its contract. Invariant: the sum and the ones of what is left are the ones of the table.
use Rattle.counts.proofs.WordOnes.{byte_next, none_left}
use Rattle.std.proofs.Common.{arith, get_or}
use Rattle.std.proofs.lemmas.Nat.{ones-le}
use Rattle.counts.proofs.bytes.count_bytes.Goals as goal

pub loop-x-preserved : goal.loop-x-preserved
loop-x-preserved c =
    let t = c.args.table.now in
    let i = c.loop-x.x-index in
    (omega arith, omega (arith, ones-le 8 (get_or t i 0) (omega arith)), omega (arith, byte_next t i (omega arith)))

pub returns : goal.returns
returns c = (omega (arith, none_left c.args.table.now c.loop-x.x-index (omega arith)), omega arith)
