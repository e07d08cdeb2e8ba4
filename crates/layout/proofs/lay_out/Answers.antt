-- `lay_out` meets its contract: refused by the first field, a column or the mark, or else laid out.
use Rattle.layout.proofs.Laid.{laid_all, laid_columns_refused, laid_first_refused, laid_mark_refused}
use Rattle.std.proofs.lemmas.Result.{err_from_is_err_and}
use Rattle.layout.proofs.lay_out.Goals as goal

pub returns-in_err-counts : goal.returns-in_err-counts
returns-in_err-counts c =
    let p = err_from_is_err_and c.from_residual.result c.from_residual.ensures.1 in
    rw (p.1, p.2) (laid_first_refused _ _ c.in_err-counts.ensures.0)

pub returns-in_err-laid : goal.returns-in_err-laid
returns-in_err-laid c =
    let p = err_from_is_err_and c.from_residual-in_err-laid.result c.from_residual-in_err-laid.ensures.1 in
    rw (p.1, p.2) (laid_columns_refused _ _ c.in_ok-counts.ensures.0 _ c.in_err-laid.ensures)

pub returns-in_err-read_mark : goal.returns-in_err-read_mark
returns-in_err-read_mark c =
    let p = err_from_is_err_and c.from_residual-in_err-read_mark.result c.from_residual-in_err-read_mark.ensures.1 in
    rw (p.1, p.2) (laid_mark_refused _ _ c.in_ok-counts.ensures.0 _ c.in_ok-laid.ensures _ c.in_err-read_mark.ensures.0)

pub returns : goal.returns
returns c =
    let first = c.in_ok-counts.ensures in
    let mark = c.in_ok-read_mark.ensures in
    rw c.unwrap_or-mark.ensures (laid_all _ _ first.0 _ c.in_ok-laid.ensures _ mark.0 mark.1 first.1.0 first.1.1)
