-- `read_byte` meets its contract: each path is a law of what stands between quotes.
use Rattle.lexer.proofs.QuotedBytes.{byte_end, byte_escape, byte_itself, byte_none, byte_wrong}
use Rattle.std.proofs.Common.{arith, sym}
use Rattle.lexer.proofs.quoted.read_byte.Goals as goal

pub returns-in_err-x : goal.returns-in_err-x
returns-in_err-x c = rw c.from_residual.ensures (byte_none c.args.text.now c.args.at c.in_err-x.ensures.lookup.3)

pub returns-in-34 : goal.returns-in-34
returns-in-34 c =
    let found = c.in_ok-x.ensures.lookup in
    byte_end c.args.text.now c.args.at found.3.0 (found.4 (omega arith) 0) c.in-34.is

pub returns-in-92 : goal.returns-in-92
returns-in-92 c =
    let found = c.in_ok-x.ensures.lookup in
    byte_escape c.args.text.now c.args.at found.3.0 (found.4 (omega arith) 0) c.in-92.is c.read_escape.result c.read_escape.ensures

pub returns-in_default : goal.returns-in_default
returns-in_default c =
    let found = c.in_ok-x.ensures.lookup in
    byte_itself c.args.text.now c.args.at found.3.0 (found.4 (omega arith) 0) (omega arith) (omega arith) (sym c.if-is_plain.ensures)

pub returns-in_default-2 : goal.returns-in_default-2
returns-in_default-2 c =
    let found = c.in_ok-x.ensures.lookup in
    byte_wrong c.args.text.now c.args.at found.3.0 (found.4 (omega arith) 0) (omega arith) (omega arith) (sym c.if-is_plain.ensures)
