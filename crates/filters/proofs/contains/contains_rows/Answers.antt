-- `contains_rows` meets its contract: the pair, and with a loose letter the bytes from 128 on besides.
use Rattle.filters.proofs.Pairs.{near_gap}
use Rattle.filters.proofs.Passing.{pair_or_non_ascii_sifts, pair_sifts}
use Rattle.filters.specs.declared.pair.Pair.{Pair}
use Rattle.heads.proofs.DueRowLaws.{due_rows}
use Rattle.std.proofs.Common.{ap, sym, ◌∙◌}
use Rattle.filters.proofs.contains.contains_rows.Goals as goal

pub windows_rows-tight-requires : goal.windows_rows-tight-requires
windows_rows-tight-requires c = let k = c.pair_of-k.ensures in (c.requires.0, rw k.pair_is (near_gap k.reach))

pub returns-then-k : goal.returns-then-k
returns-then-k c =
    let k = c.pair_of-k.ensures in
    let a = c.args in
    let h = c.requires in
    pair_or_non_ascii_sifts a.rows.b.now a.rows.bytes _ _ a.operand.now _ (due_rows a.rows h.0) h.1 _ _ k.reach _ _
    (rw k.pair_is at c.windows_rows-tight.ensures) c.non_ascii_rows.ensures

pub returns : goal.returns
returns c =
    let k = c.pair_of-k.ensures in
    let a = c.args in
    let h = c.requires in
    pair_sifts a.rows.b.now a.rows.bytes _ _ a.operand.now _ (due_rows a.rows h.0) h.1 _ _ k.reach _
    (sym (ap (λ (p : Pair). p.loose) k.pair_is) ∙ c.if-k.false) (rw k.pair_is at c.windows_rows-tight.ensures)
