-- `lay_out_columns` meets its contract. The invariant is `Reading`: the layout shows the columns read so far, and the rest decides.
use Rattle.layout.proofs.Columns.{reading_all, reading_numbers, reading_refused, reading_texts}
use Rattle.std.proofs.Common.{arith}
use Rattle.std.proofs.lemmas.Result.{err_from_is_err_and}
use Rattle.layout.proofs.lay_out_columns.Goals as goal
use Rattle.layout.proofs.lay_out_columns.Goals.{in-Numbers, in-Texts}

pub returns-in_err-start : goal.returns-in_err-start
returns-in_err-start c =
    let p = err_from_is_err_and c.from_residual.result c.from_residual.ensures.1 in
    rw (p.1, p.2) (reading_refused _ _ _ _ _ _ _ _ c.loop-i.invariant (omega arith) _ c.in_err-start.ensures.0)

pub loop-i-preserved : goal.loop-i-preserved
loop-i-preserved c =
    let inv = c.loop-i.invariant in
    let read = c.in_ok-start.ensures in
    elim c.match-branch-2.branch [
      | in-Numbers w ↦
          let found = rw w.in-Numbers.is at read in
          reading_numbers _ _ _ _ _ _ _ _ inv (omega arith) _ _ _ _ _ found.0 found.1 w.tags-is w.starts-is w.at-is
      | in-Texts w ↦
          let found = rw w.in-Texts.is at read in
          reading_texts _ _ _ _ _ _ _ _ inv (omega arith) _ _ _ _ _ found.0 found.1 w.tags-is w.starts-is w.at-is
    ]

pub returns : goal.returns
returns c = reading_all _ _ _ _ _ _ _ _ c.loop-i.invariant (omega arith)
