-- `text_at` meets its contract: the slot lies in the bytes with its text, which is the decoded one.
use Rattle.catalogue.proofs.Rows.{cell_row, has_text, text_is}
use Rattle.std.proofs.Common.{arith}
use Rattle.std.specs.Prelude.{refl}
use Rattle.catalogue.proofs.column.text_at.Goals as goal

pub slice_bounds-result-end : goal.slice_bounds-result-end
slice_bounds-result-end c = omega (arith, has_text _ _ _ (cell_row c.args.cell c.requires))

pub returns : goal.returns
returns c = text_is _ _ _ _ _ refl c.from-size.ensures
