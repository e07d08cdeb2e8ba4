-- `give_question` meets its contract: the reading refuses, the output is too short, or the bytes go out.
use Rattle.query.specs.Decode.{decode_tagged}
use Rattle.std.proofs.Common.{arith}
use Rattle.std.proofs.lemmas.Result.{err_from_is_err_and}
use Rattle.typed.proofs.Typing.{question_no_room, question_refused, question_written}
use Rattle.typed.proofs.give_question.Goals as goal

pub returns-in_err-read_query : goal.returns-in_err-read_query
returns-in_err-read_query c =
    let a = c.args in
    let p = err_from_is_err_and c.from_residual.result c.from_residual.ensures.1 in
    rw (p.1, p.2) (question_refused a.tags.now a.question.now _ _ (decode_tagged a.tags.now a.question.now) a.output.now c.in_err-read_query.ensures)

pub returns-then-output-question : goal.returns-then-output-question
returns-then-output-question c =
    let a = c.args in
    question_no_room a.tags.now a.question.now _ _ (decode_tagged a.tags.now a.question.now) a.output.now c.in_ok-read_query.ensures c.if-output-question.true

pub returns : goal.returns
returns c =
    let a = c.args in
    question_written a.tags.now a.question.now _ _ (decode_tagged a.tags.now a.question.now) _ a.output.now _ c.in_ok-read_query.ensures (omega arith)
    c.put_question-size.ensures
