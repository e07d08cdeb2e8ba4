-- `read_text` meets its contract. Invariant: a member stands, and what the machine gives from here on it gives for the
-- whole text.
use Rattle.parser.proofs.ReadingLaws.{comma_read, expecting_first, no_comma, text_goes_on, whole_read}
use Rattle.std.proofs.Common.{arith}
use Rattle.syntax.specs.Machine.{question_of}
use Rattle.parser.proofs.whole.read_text.Goals as goal

pub read_member-requires : goal.read_member-requires
read_member-requires c =
    let a = c.args in
    (c.requires, (question_of a.tags.now a.text.now, expecting_first a.tags.now a.text.now a.out.now))

pub returns-in_err-here : goal.returns-in_err-here
returns-in_err-here c =
    let a = c.args in
    rw c.from_residual.ensures (c.in_err-here.ensures (question_of a.tags.now a.text.now) (expecting_first a.tags.now a.text.now a.out.now))

pub loop-here-init : goal.loop-here-init
loop-here-init c =
    let a = c.args in
    let member = c.in_ok-here.ensures in
    record { stands = member.keeps (question_of a.tags.now a.text.now) (expecting_first a.tags.now a.text.now a.out.now); no_closing = member.none }

pub returns-in_err-at : goal.returns-in_err-at
returns-in_err-at c =
    let i = c.loop-here.invariant in
    let still = c.loop-here-test.true in
    rw c.from_residual-in_err-at.ensures (no_comma i.stands still c.in_err-at.ensures (i.no_closing still))

pub read_member-requires-in-loop-here : goal.read_member-requires-in-loop-here
read_member-requires-in-loop-here c =
    let expecting = comma_read c.loop-here.invariant.stands c.loop-here-test.true c.in_ok-at.ensures in
    ((c.requires.0, omega (arith, c.requires.1)), (question_of c.args.tags.now c.args.text.now, expecting))

pub returns-in_err-here-2 : goal.returns-in_err-here-2
returns-in_err-here-2 c =
    let expecting = comma_read c.loop-here.invariant.stands c.loop-here-test.true c.in_ok-at.ensures in
    rw c.from_residual-in_err-here-2.ensures (c.in_err-here-2.ensures (question_of c.args.tags.now c.args.text.now) expecting)

pub loop-here-preserved : goal.loop-here-preserved
loop-here-preserved c =
    let expecting = comma_read c.loop-here.invariant.stands c.loop-here-test.true c.in_ok-at.ensures in
    let member = c.in_ok-here-2.ensures in
    record { stands = member.keeps (question_of c.args.tags.now c.args.text.now) expecting; no_closing = member.none }

pub returns-then-here-text : goal.returns-then-here-text
returns-then-here-text c = whole_read c.loop-here.invariant.stands c.loop-here-test.false c.if-here-text.true

pub returns-else-here-text : goal.returns-else-here-text
returns-else-here-text c = text_goes_on c.loop-here.invariant.stands c.loop-here-test.false c.if-here-text.false
