-- The test of `texts_one_by_one` meets its contract: the text read is that of the row.
use Rattle.fronts.proofs.Texts.{text_value}
use Rattle.predicate.specs.Meaning.{text_test}
use Rattle.std.proofs.Common.{ap, ◌∙◌}
use Rattle.scan.proofs.text.fn.texts_one_by_one.kept_where.Goals as goal

pub returns : goal.returns
returns c =
    let l = c.captures in
    c.text_test.ensures ∙ ap (text_test l.kind l.operand.now) (text_value _ _ _ c.requires _ (rw c.from.ensures at c.text_at-text.ensures))
