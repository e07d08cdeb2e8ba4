-- `read_number` meets its contract. Invariant: what the digits from here on give, the whole gives.
use Rattle.lexer.proofs.Digits.{digits_end, digits_go, digits_over, digits_pass, number_begins, number_none, number_wrong, number_zero}
use Rattle.std.proofs.Common.{arith, sym, ◌∙◌}
use Rattle.lexer.proofs.number.read_number.Goals as goal

pub returns-in_err-first : goal.returns-in_err-first
returns-in_err-first c = rw c.from_residual.ensures (number_none c.args.text.now c.args.at c.args.limit c.in_err-first.ensures.lookup.3)

pub returns-then-first-eq48 : goal.returns-then-first-eq48
returns-then-first-eq48 c =
    let a = c.args in
    let found = c.in_ok-first.ensures.lookup in
    (number_zero a.text.now a.at a.limit found.3.0 (found.4 (omega arith) 0) c.if-first-eq48.true, omega arith)

pub returns-then-not-is_ascii_digit : goal.returns-then-not-is_ascii_digit
returns-then-not-is_ascii_digit c =
    let a = c.args in
    let found = c.in_ok-first.ensures.lookup in
    number_wrong a.text.now a.at a.limit found.3.0 (found.4 (omega arith) 0) c.if-first-eq48.false (sym c.if-not-is_ascii_digit.ensures.value)

pub loop-next-init : goal.loop-next-init
loop-next-init c =
    let a = c.args in
    let found = c.in_ok-first.ensures.lookup in
    let digit = c.if-not-is_ascii_digit.ensures in
    (omega (arith, digit.cases, c.from-number.ensures), number_begins a.text.now a.at a.limit found.3.0 (found.4 (omega arith) 0) c.if-first-eq48.false (sym digit.value) c.from-number.ensures)

pub returns-then-not-is_ascii_digit-2 : goal.returns-then-not-is_ascii_digit-2
returns-then-not-is_ascii_digit-2 c =
    let a = c.args in
    let l = c.loop-next in
    (record { gives = l.invariant.1 ∙ digits_end a.text.now l.next a.limit l.number (omega arith) (sym c.if-not-is_ascii_digit-2.ensures.value); past = omega arith; inside = omega arith }, l.invariant.0)

pub returns-then-limit-number : goal.returns-then-limit-number
returns-then-limit-number c =
    let a = c.args in
    let l = c.loop-next in
    l.invariant.1 ∙ digits_pass a.text.now l.next a.limit l.number (omega arith) (sym c.if-not-is_ascii_digit-2.ensures.value) (omega (arith, c.from.ensures)) c.if-limit-number.true

pub loop-next-preserved : goal.loop-next-preserved
loop-next-preserved c =
    let a = c.args in
    let l = c.loop-next in
    (c.if-limit-number.false, l.invariant.1 ∙ digits_go a.text.now l.next a.limit l.number (omega arith) (sym c.if-not-is_ascii_digit-2.ensures.value) (omega (arith, c.from.ensures)) c.if-limit-number.false)

pub returns : goal.returns
returns c =
    let a = c.args in
    let l = c.loop-next in
    let inside = c.in_ok-first.ensures.lookup.3.0 in
    (record { gives = l.invariant.1 ∙ digits_over a.text.now l.next a.limit l.number (omega arith); past = inside; inside = omega arith }, l.invariant.0)
