-- `number_at` meets its contract: the row lies in the bytes, and its four bytes are the decoded number.
use Rattle.catalogue.proofs.Rows.{cell_row, has_number, number_is}
use Rattle.std.proofs.Common.{arith}
use Rattle.catalogue.proofs.column.number_at.Goals as goal

pub overflow_mul-cell : goal.overflow_mul-cell
overflow_mul-cell c = omega (arith, has_number _ _ _ (cell_row c.args.cell c.requires))

pub overflow_add-cell : goal.overflow_add-cell
overflow_add-cell c = omega (arith, has_number _ _ _ (cell_row c.args.cell c.requires))

pub four_bytes-requires : goal.four_bytes-requires
four_bytes-requires c = omega (arith, has_number _ _ _ (cell_row c.args.cell c.requires))

pub returns : goal.returns
returns c = number_is _ _ _ _ c.four_bytes.ensures
