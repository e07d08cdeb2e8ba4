-- `plain_at` meets its contract: the value read at the row is that of the column shown there.
use Rattle.predicate.proofs.OutcomeLaws.{number_blank_lem, number_tested, other_is_text, text_blank_lem, text_tested}
use Rattle.predicate.proofs.row.plain_at.Goals as goal

pub number_at-n-requires : goal.number_at-n-requires
number_at-n-requires c = c.if-cell-eq-NUMBER_TAG.true

pub returns-then-answers_blank : goal.returns-then-answers_blank
returns-then-answers_blank c =
    number_blank_lem _ _ _ _ _ _ c.if-cell-eq-NUMBER_TAG.true _ c.number_at-n.ensures c.answers_blank.ensures c.if-answers_blank.true

pub returns-then-cell-eq-NUMBER_TAG : goal.returns-then-cell-eq-NUMBER_TAG
returns-then-cell-eq-NUMBER_TAG c =
    number_tested _ _ _ _ _ _ c.if-cell-eq-NUMBER_TAG.true _ c.number_at-n.ensures c.answers_blank.ensures c.if-answers_blank.false c.from.ensures c.number_test.ensures

pub text_at-text-requires : goal.text_at-text-requires
text_at-text-requires c = other_is_text c.args.cell c.if-cell-eq-NUMBER_TAG.false

pub returns-then-answers_blank-2 : goal.returns-then-answers_blank-2
returns-then-answers_blank-2 c =
    text_blank_lem _ _ _ _ _ _ c.if-cell-eq-NUMBER_TAG.false _ c.text_at-text.ensures (rw c.is_empty.ensures at c.answers_blank-2.ensures) c.if-answers_blank-2.true

pub returns : goal.returns
returns c =
    text_tested _ _ _ _ _ _ c.if-cell-eq-NUMBER_TAG.false _ c.text_at-text.ensures (rw c.is_empty.ensures at c.answers_blank-2.ensures) c.if-answers_blank-2.false c.from-2.ensures c.text_test.ensures
