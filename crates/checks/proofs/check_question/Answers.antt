-- `check_question` meets its contract: the number of the first check that fails, or how many predicates there are.
use Rattle.checks.proofs.Answers.{question_answer_accepted, question_answer_refused}
use Rattle.std.proofs.lemmas.Result.{err_from_is_err_and}
use Rattle.checks.proofs.check_question.Goals as goal

pub returns-in_err-begun : goal.returns-in_err-begun
returns-in_err-begun c =
    let p = err_from_is_err_and c.from_residual.result c.from_residual.ensures.1 in
    rw (p.1, p.2) (question_answer_refused _ _ c.in_err-begun.ensures)

pub returns : goal.returns
returns c = question_answer_accepted c.in_ok-begun.ensures
