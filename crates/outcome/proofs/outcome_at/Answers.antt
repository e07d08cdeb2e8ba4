-- `outcome_at` meets its contract: the first check that fails, or the condition worked out.
use Rattle.outcome.proofs.Outcomes.{outcome_answer_refused}
use Rattle.std.proofs.lemmas.Result.{err_from_is_err_and}
use Rattle.outcome.proofs.outcome_at.Goals as goal

pub returns-in_err-begun : goal.returns-in_err-begun
returns-in_err-begun c =
    let p = err_from_is_err_and c.from_residual.result c.from_residual.ensures.1 in
    rw (p.1, p.2) (outcome_answer_refused _ _ _ _ c.in_err-begun.ensures)

pub outcome_accepted-requires : goal.outcome_accepted-requires
outcome_accepted-requires c = (_, c.in_ok-begun.ensures)
