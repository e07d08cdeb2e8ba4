-- `read_plain` meets its contract: each path is a law of a condition.
use Rattle.conditions.proofs.FieldReads.{plain_joined, plain_none, plain_read, plain_unnumbered, plain_wrong}
use Rattle.std.proofs.Common.{arith}
use Rattle.conditions.proofs.condition.read_plain.Goals as goal

pub returns-in_err-digits : goal.returns-in_err-digits
returns-in_err-digits c =
    let a = c.args in
    rw c.from_residual.ensures (plain_none a.tags.now a.raised a.text.now a.at c.in_err-digits.ensures)

pub returns-in_err-column : goal.returns-in_err-column
returns-in_err-column c =
    let a = c.args in
    rw c.from_residual-in_err-column.ensures (plain_unnumbered a.tags.now a.raised a.text.now a.at c.in_ok-digits.ensures c.in_err-column.ensures)

pub returns-in_err-behind : goal.returns-in_err-behind
returns-in_err-behind c =
    let a = c.args in
    rw c.from_residual-in_err-behind.ensures
    (plain_joined a.tags.now a.raised a.text.now a.at c.in_ok-digits.ensures c.in_ok-column.ensures.0 c.in_err-behind.ensures)

pub returns-in_err-test : goal.returns-in_err-test
returns-in_err-test c =
    let a = c.args in
    rw c.from_residual-in_err-test.ensures
    (plain_wrong a.tags.now a.raised a.text.now a.at c.in_ok-digits.ensures c.in_ok-column.ensures.0 c.in_ok-behind.ensures c.in_err-test.ensures)

pub returns : goal.returns
returns c =
    let a = c.args in
    plain_read a.tags.now a.raised a.text.now a.at c.in_ok-digits.ensures c.in_ok-column.ensures.0 c.in_ok-behind.ensures
    c.in_ok-test.ensures (omega (arith, c.requires.has_room)) c.put_head.ensures
