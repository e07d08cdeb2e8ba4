-- `type_question` meets its contract: the first check that fails, or what its text gives, in a short table or in the longest.
use Rattle.answers.specs.Answer.{answer_of}
use Rattle.catalogue.specs.Decode.{decode_catalogue}
use Rattle.input.proofs.Inputs.{laid_tags_length}
use Rattle.std.proofs.Common.{arith}
use Rattle.std.proofs.lemmas.Result.{err_from_is_err_and}
use Rattle.typed.proofs.Typing.{catalogue_refused, text_long, text_typed_lem}
use Rattle.typed.proofs.type_question.Goals as goal

pub returns-in_err-layout : goal.returns-in_err-layout
returns-in_err-layout c =
    let a = c.args in
    let p = err_from_is_err_and c.from_residual.result c.from_residual.ensures.1 in
    rw (p.1, p.2) (catalogue_refused a.catalogue.now a.text.now a.output.now _ c.in_err-layout.ensures)

pub slice_bounds-tags-end : goal.slice_bounds-tags-end
slice_bounds-tags-end c = laid_tags_length _ _ (decode_catalogue c.args.catalogue.now) c.in_ok-layout.ensures

pub returns-then-text-gt-LIMIT : goal.returns-then-text-gt-LIMIT
returns-then-text-gt-LIMIT c =
    let a = c.args in
    text_long a.catalogue.now a.text.now a.output.now _ c.in_ok-layout.ensures c.if-text-gt-LIMIT.true

pub type_text-requires : goal.type_text-requires
type_text-requires c = ((c.if-text-gt-LIMIT.false, omega (arith, c.if-text-le-LIMIT.true)), omega arith)

pub returns-then-text-le-LIMIT : goal.returns-then-text-le-LIMIT
returns-then-text-le-LIMIT c =
    let a = c.args in
    text_typed_lem a.catalogue.now a.text.now a.output.now _ c.in_ok-layout.ensures c.if-text-gt-LIMIT.false (answer_of c.type_text.result) _ c.type_text.ensures

pub type_text-requires-2 : goal.type_text-requires-2
type_text-requires-2 c = ((c.if-text-gt-LIMIT.false, omega (arith, c.if-text-gt-LIMIT.false)), omega arith)

pub returns : goal.returns
returns c =
    let a = c.args in
    text_typed_lem a.catalogue.now a.text.now a.output.now _ c.in_ok-layout.ensures c.if-text-gt-LIMIT.false (answer_of c.type_text-2.result) _ c.type_text-2.ensures
