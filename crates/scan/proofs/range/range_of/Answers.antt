-- `range_of` meets its contract; an operand that fits a range has what is read.
use Rattle.scan.proofs.Ranges.{range_fits_lem}
use Rattle.std.proofs.Common.{arith}
use Rattle.std.specs.Prelude.{refl}
use Rattle.scan.proofs.range.range_of.Goals as goal

pub four_bytes-low-requires : goal.four_bytes-low-requires
four_bytes-low-requires c = let f = range_fits_lem _ _ c.requires refl in omega arith

pub four_bytes-high-requires : goal.four_bytes-high-requires
four_bytes-high-requires c = let f = range_fits_lem _ _ c.requires refl in omega arith

pub overflow_sub-width : goal.overflow_sub-width
overflow_sub-width c = let f = range_fits_lem _ _ c.requires refl in omega arith

pub returns : goal.returns
returns c = record { low_is = c.four_bytes-low.ensures; width_is = omega arith }

pub invariant_of-result : goal.invariant_of-result
invariant_of-result c = let f = range_fits_lem _ _ c.requires refl in record { fits = omega (arith, c.four_bytes-low.ensures, c.four_bytes-high.ensures) }
