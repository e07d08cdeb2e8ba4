-- `log_question` meets its contract: the first check that fails, or the log of what was read.
use Rattle.answers.specs.Answer.{answer_of}
use Rattle.bitmaps.proofs.TableLaws.{holds_none}
use Rattle.marks.proofs.Marking.{empty_marks}
use Rattle.probe_log.proofs.Logging.{has_marks, log_finished, log_not_order, log_refused}
use Rattle.std.proofs.Common.{arith, sym}
use Rattle.std.proofs.lemmas.Result.{err_from_is_err_and}
use Rattle.probe_log.proofs.log_question.Goals as goal

pub returns-in_err-begun : goal.returns-in_err-begun
returns-in_err-begun c =
    let p = err_from_is_err_and c.from_residual.result c.from_residual.ensures.1 in
    rw (p.1, p.2) (log_refused _ _ _ _ _ c.in_err-begun.ensures)

pub overflow_cast-n : goal.overflow_cast-n
overflow_cast-n c = let f = c.in_ok-begun.ensures.tabled.few in omega arith

pub is_order-requires : goal.is_order-requires
is_order-requires c = c.in_ok-begun.ensures.tabled.few

pub returns-then-not-is_order : goal.returns-then-not-is_order
returns-then-not-is_order c = log_not_order c.in_ok-begun.ensures _ _ (sym c.if-not-is_order.ensures)

pub make_plan-requires : goal.make_plan-requires
make_plan-requires c = (_, (_, c.in_ok-begun.ensures))

pub work-requires : goal.work-requires
work-requires c =
    let G = c.in_ok-begun.ensures in
    record { has_plan = (c.make_plan.ensures _ _ G, sym c.if-not-is_order.ensures); has_no_bits = (holds_none 1, empty_marks 128 (omega arith) (omega arith)) }

pub finish_log-requires : goal.finish_log-requires
finish_log-requires c =
    has_marks (c.make_plan.ensures _ _ c.in_ok-begun.ensures) _ (sym c.if-not-is_order.ensures) c.work.auto.marks c.work.ensures

pub returns : goal.returns
returns c =
    log_finished (c.make_plan.ensures _ _ c.in_ok-begun.ensures) _ (sym c.if-not-is_order.ensures) c.work.auto.marks c.work.ensures _ _ (answer_of c.finish_log.result)
    c.finish_log.ensures
