-- `blank_rows` meets its contract: the words are those of the predicate's lines, and its blanks are among the rows
-- sought.
use Rattle.blanks.proofs.Blanks.{blanks_found, has_blanks}
use Rattle.std.proofs.Common.{arith}
use Rattle.blanks.proofs.blank_rows.Goals as goal

pub bounds-plan-c : goal.bounds-plan-c
bounds-plan-c c = c.requires.2.low

pub blank_of-requires : goal.blank_of-requires
blank_of-requires c =
    let a = c.args in
    let t = c.type_inv in
    has_blanks a.catalogue.now a.plan.now a.probed.now a.met.now a.c a.base.block (λ k. (t.probed k).fits) (λ k. (t.met k).fits) c.word_at.ensures c.word_at-2.ensures (omega arith) c.rows_of_no-rows.ensures c.requires

pub returns : goal.returns
returns c T q R =
    let a = c.args in
    let t = c.type_inv in
    blanks_found a.catalogue.now a.plan.now a.probed.now a.met.now a.c a.base.block (λ k. (t.probed k).fits) (λ k. (t.met k).fits) c.word_at.ensures c.word_at-2.ensures (omega arith) c.rows_of_no-rows.ensures T q R _ c.blank_of.ensures
