-- `read_range` meets its contract: two numbers with two dots between them.
use Rattle.fields.specs.Numbers.{bytes_of}
use Rattle.operands.proofs.TestReads.{range_read}
use Rattle.std.proofs.Common.{arith}
use Rattle.operands.proofs.test.read_range.Goals as goal

pub put_four_bytes-stop-requires : goal.put_four_bytes-stop-requires
unfolding bytes_of
put_four_bytes-stop-requires c = omega (arith, c.requires.1, c.put_four_bytes-half.ensures.place)

pub returns : goal.returns
returns c =
    let a = c.args in
    range_read a.text.now a.at a.end a.out.now c.in_ok-low.ensures.0 c.in_ok-behind.ensures c.in_ok-high.ensures.0 (omega (arith, c.requires.1))
    c.put_four_bytes-half.ensures c.put_four_bytes-stop.ensures
