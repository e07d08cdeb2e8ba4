-- `type_text` meets its contract: misspelled, or what the question gives.
use Rattle.std.proofs.Common.{arith, ◌≡◌}
use Rattle.std.proofs.lemmas.Result.{err_from_is_err_and}
use Rattle.answers.specs.declared.refusal.Refusal.TheVariants as refusal
use Rattle.answers.specs.Answer.{answer_of}
use Rattle.typed.proofs.Typing.{question_few, text_misspelled_lem, text_read}
use Rattle.typed.proofs.type_text.Goals as goal

pub read_text-requires : goal.read_text-requires
read_text-requires c = c.requires.0

pub returns-in_err-size : goal.returns-in_err-size
returns-in_err-size c =
    let a = c.args in
    let misspelled : c.in_err-size.field-0.0 ≡ refusal.TextMisspelled = grind arith in
    let p = err_from_is_err_and c.from_residual.result c.from_residual.ensures.1 in
    rw (p.1, p.2, misspelled) (text_misspelled_lem a.tags.now a.text.now a.output.now (rw c.in_err-size.ensures.ok_part at c.read_text.ensures))

pub slice_bounds-give_question-end : goal.slice_bounds-give_question-end
slice_bounds-give_question-end c =
    let read = rw c.in_ok-size.ensures.ok_part at c.read_text.ensures in
    read.front.inside

pub give_question-requires : goal.give_question-requires
give_question-requires c =
    let read = rw c.in_ok-size.ensures.ok_part at c.read_text.ensures in
    question_few read (omega (arith, c.read_text.auto, c.requires))

pub returns : goal.returns
returns c =
    let a = c.args in
    let read = rw c.in_ok-size.ensures.ok_part at c.read_text.ensures in
    text_read a.tags.now a.text.now a.output.now (answer_of c.give_question.result) _ read c.give_question.ensures
