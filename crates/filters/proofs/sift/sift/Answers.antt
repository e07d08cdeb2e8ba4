-- `sift` meets its contract: the filter of each kind passes what its test passes.
use Rattle.filters.proofs.Passing.{contains_sifts, front_sifts}
use Rattle.heads.proofs.DueRowLaws.{due_rows}
use Rattle.std.proofs.Common.{arith}
use Rattle.filters.proofs.sift.sift.Goals as goal

pub returns-then-kind-eq-CONTAINS : goal.returns-then-kind-eq-CONTAINS
returns-then-kind-eq-CONTAINS c =
    let a = c.args in
    let h = c.requires in
    contains_sifts a.rows.b.now a.rows.bytes _ _ a.operand.now _ (due_rows a.rows h.0) h.3 _ _ c.if-kind-eq-CONTAINS.true c.contains_rows.ensures

pub front_rows-requires : goal.front_rows-requires
front_rows-requires c = c.requires.0

pub returns : goal.returns
returns c =
    let other = c.if-kind-eq-CONTAINS.false in
    let a = c.args in
    let h = c.requires in
    front_sifts a.rows.b.now a.rows.bytes _ _ a.operand.now _ (due_rows a.rows h.0) h.3 _ _ _ c.head_of-k.ensures h.1 (omega arith) c.front_rows.ensures
