-- `begin` meets its contract: by the layout and the reading, the first check that fails, or all in hand.
use Rattle.catalogue.specs.Decode.{decode_catalogue}
use Rattle.input.proofs.Inputs.{input_accepted, laid_tags_length, layout_refuses, question_refuses}
use Rattle.std.proofs.Common.{refl}
use Rattle.std.proofs.lemmas.Result.{err_from_is_err_and}
use Rattle.input.proofs.begin.begin.Goals as goal

pub returns-in_err-layout : goal.returns-in_err-layout
returns-in_err-layout c =
    let p = err_from_is_err_and c.from_residual.result c.from_residual.ensures.1 in
    rw (p.1, p.2) (layout_refuses _ _ _ c.in_err-layout.ensures)

pub slice_bounds-tags-end : goal.slice_bounds-tags-end
slice_bounds-tags-end c = laid_tags_length _ _ (decode_catalogue c.args.catalogue.now) c.in_ok-layout.ensures

pub returns-in_err-n : goal.returns-in_err-n
returns-in_err-n c =
    let p = err_from_is_err_and c.from_residual-in_err-n.result c.from_residual-in_err-n.ensures.1 in
    rw (p.1, p.2) (question_refuses _ _ _ _ refl _ c.in_ok-layout.ensures _ c.in_err-n.ensures)

pub returns : goal.returns
returns c = input_accepted _ _ _ _ refl _ c.in_ok-layout.ensures _ c.in_ok-n.ensures
