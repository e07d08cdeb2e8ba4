-- `row_passes` meets its contract: the lengths, then the bytes that the first word does not tell for sure.
use Rattle.catalogue.proofs.Rows.{cell_row, has_text}
use Rattle.fronts.proofs.FrontLaws.{front_test, long_enough, other_size, sure_begins}
use Rattle.fronts.proofs.Texts.{text_value}
use Rattle.predicate.specs.Meaning.{text_test}
use Rattle.std.proofs.Common.{ap, arith, sym, ◌∙◌}
use Rattle.fronts.proofs.row_passes.Goals as goal

pub text_at-text-requires : goal.text_at-text-requires
text_at-text-requires c = c.requires.0

pub returns-then-not-size_fits : goal.returns-then-not-size_fits
returns-then-not-size_fits c =
    let p = c.requires in
    let t = text_value _ _ _ (cell_row c.args.cell p.0) _ c.text_at-text.ensures in
    other_size _ _ _ p.1 (sym c.size_fits.ensures ∙ c.if-not-size_fits.true) ∙ ap (text_test _ _) t

pub overflow_mul-cell : goal.overflow_mul-cell
overflow_mul-cell c = let h = has_text _ _ _ (cell_row c.args.cell c.requires.0) in omega arith

pub overflow_add-cell : goal.overflow_add-cell
overflow_add-cell c = let h = has_text _ _ _ (cell_row c.args.cell c.requires.0) in omega arith

pub is_sure-requires : goal.is_sure-requires
is_sure-requires c = let h = has_text _ _ _ (cell_row c.args.cell c.requires.0) in omega arith

pub rest_matches-requires : goal.rest_matches-requires
rest_matches-requires c =
    let p = c.requires in
    let a = c.args in
    let text = c.text_at-text in
    let r = cell_row a.cell p.0 in
    let h = has_text _ _ _ r in
    let l = long_enough a.kind a.operand.now text.result.now p.1 (sym c.size_fits.ensures ∙ c.if-not-size_fits.false) in
    (l, sure_begins a.operand.now a.cell.b.now a.k _ (text_value _ _ _ r _ text.ensures) h.0 h.1 p.3 p.2 (sym c.is_sure.ensures ∙ c.if-is_sure.true) l)

pub returns-then-is_sure : goal.returns-then-is_sure
returns-then-is_sure c =
    let p = c.requires in
    let t = text_value _ _ _ (cell_row c.args.cell p.0) _ c.text_at-text.ensures in
    front_test _ _ _ p.1 (sym c.size_fits.ensures ∙ c.if-not-size_fits.false) _ c.rest_matches.ensures ∙ ap (text_test _ _) t

pub returns : goal.returns
returns c =
    let p = c.requires in
    let t = text_value _ _ _ (cell_row c.args.cell p.0) _ c.text_at-text.ensures in
    front_test _ _ _ p.1 (sym c.size_fits.ensures ∙ c.if-not-size_fits.false) _ c.begins_with.ensures ∙ ap (text_test _ _) t
