-- `run_question` meets its contract: the first check that fails, or the run of what was read.
use Rattle.bitmaps.proofs.TableLaws.{holds_none}
use Rattle.marks.proofs.Marking.{empty_marks}
use Rattle.request.proofs.Request.{request_fits, request_order}
use Rattle.run.proofs.Running.{run_declined, run_finished, run_refused, size_short, size_whole}
use Rattle.std.proofs.Common.{arith}
use Rattle.std.proofs.lemmas.Result.{err_from_is_err_and}
use Rattle.std.specs.Prelude.{length}
use Rattle.run.proofs.run_question.Goals as goal

pub returns-in_err-begun : goal.returns-in_err-begun
returns-in_err-begun c =
    let p = err_from_is_err_and c.from_residual.result c.from_residual.ensures.1 in
    rw (p.1, p.2) (run_refused _ _ c.in_err-begun.ensures)

pub check_request-requires : goal.check_request-requires
check_request-requires c =
    let G = c.in_ok-begun.ensures in
    (G.tabled.few, size_short G c.bytes_for-size.ensures)

pub returns-in_err-check_request : goal.returns-in_err-check_request
returns-in_err-check_request c =
    let p = err_from_is_err_and c.from_residual-in_err-check_request.result c.from_residual-in_err-check_request.ensures.1 in
    rw (p.1, p.2) (run_declined c.in_ok-begun.ensures _ _ _ _ _ _ c.bytes_for-size.ensures _ c.in_err-check_request.ensures)

pub work_run-requires : goal.work_run-requires
work_run-requires c =
    let x = c.args in
    let order = request_order _ c.bytes_for-size.result x.order.now x.reader (length x.listed.now) (length x.looks.now) c.in_ok-check_request.ensures in
    record { has_input = (c.in_ok-begun.ensures, order); has_no_bits = (holds_none 1, empty_marks 64 (omega arith) (omega arith)) }

pub finish-requires : goal.finish-requires
finish-requires c =
    let x = c.args in
    let G = c.in_ok-begun.ensures in
    let W = c.work_run.ensures G.input G.decoded in
    record {
      selected_len = (W.selected_size, c.work_run.auto.probed, G.tabled.few, size_short G c.bytes_for-size.ensures);
      has_room = request_fits _ _ x.order.now x.reader _ _ c.in_ok-check_request.ensures;
      none_behind = (size_whole G _ _ c.bytes_for-size.ensures W.selected_whole, size_whole G _ _ c.bytes_for-size.ensures W.probed_whole);
    }

pub returns : goal.returns
returns c =
    run_finished c.in_ok-begun.ensures _ _ _ _ _ _ c.bytes_for-size.ensures c.in_ok-check_request.ensures c.work_run.ensures c.finish.ensures
