-- `read_escape` meets its contract: each path is a law of what stands behind a backslash.
use Rattle.lexer.proofs.QuotedBytes.{escape_byte, escape_cut, escape_high, escape_low, escape_none, escape_plain}
use Rattle.std.proofs.Common.{arith, sym}
use Rattle.lexer.proofs.quoted.read_escape.Goals as goal

pub returns-in_err-get : goal.returns-in_err-get
returns-in_err-get c = rw c.from_residual.ensures (escape_none c.args.text.now c.args.at c.in_err-get.ensures.lookup.3)

pub returns-in_err-high : goal.returns-in_err-high
returns-in_err-high c =
    let first = c.in_ok-get.ensures.lookup in
    rw c.from_residual-in_err-high.ensures (escape_high c.args.text.now c.args.at first.3.0 (first.4 (omega arith) 0) c.in_err-high.ensures)

pub returns-in_err-get-2 : goal.returns-in_err-get-2
returns-in_err-get-2 c =
    let first = c.in_ok-get.ensures.lookup in
    rw c.from_residual-in_err-get-2.ensures (escape_cut c.args.text.now c.args.at first.3.0 (first.4 (omega arith) 0) c.in_err-get-2.ensures.lookup.3)

pub returns-in_err-low : goal.returns-in_err-low
returns-in_err-low c =
    let first = c.in_ok-get.ensures.lookup in
    let high = c.in_ok-high.ensures in
    let second = c.in_ok-get-2.ensures.lookup in
    rw c.from_residual-in_err-low.ensures
    (escape_low c.args.text.now c.args.at first.3.0 (first.4 (omega arith) 0) high.0 high.1 second.3.0 (second.4 (omega arith) 0) c.in_err-low.ensures)

pub returns-then-is_plain : goal.returns-then-is_plain
returns-then-is_plain c =
    let first = c.in_ok-get.ensures.lookup in
    let high = c.in_ok-high.ensures in
    let second = c.in_ok-get-2.ensures.lookup in
    let low = c.in_ok-low.ensures in
    escape_plain c.args.text.now c.args.at first.3.0 (first.4 (omega arith) 0) high.0 high.1 second.3.0 (second.4 (omega arith) 0) low.0 low.1 (sym c.if-is_plain.ensures)

pub returns : goal.returns
returns c =
    let first = c.in_ok-get.ensures.lookup in
    let high = c.in_ok-high.ensures in
    let second = c.in_ok-get-2.ensures.lookup in
    let low = c.in_ok-low.ensures in
    escape_byte c.args.text.now c.args.at first.3.0 (first.4 (omega arith) 0) high.0 high.1 second.3.0 (second.4 (omega arith) 0) low.0 low.1 (sym c.if-is_plain.ensures)
