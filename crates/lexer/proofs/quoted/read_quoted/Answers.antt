-- `read_quoted` meets its contract. Invariant: the bytes read so far are written, and stand before those that the text goes on with.
use Rattle.lexer.proofs.QuotedBytes.{going_byte, going_start}
use Rattle.std.proofs.Common.{arith}
use Rattle.lexer.proofs.quoted.read_quoted.Goals as goal

pub loop-x-init : goal.loop-x-init
loop-x-init c = let a = c.args in going_start a.text.now a.from a.out.now a.to c.requires.0

pub loop-x-preserved : goal.loop-x-preserved
loop-x-preserved c =
    let byte = rw c.in-Byte.is at c.in_ok-x.ensures in
    going_byte c.loop-x.invariant (omega (arith, byte.past, byte.inside)) c.requires.1 c.loop-x.auto.out byte
