-- The number of a catalogue's refusal.
use Rattle.std.specs.Prelude.{ℕ, ◌<◌}
use Rattle.std.proofs.Common.{arith}
use Rattle.catalogue.specs.declared.refusal.Refusal.{Refusal}
use Rattle.catalogue.specs.declared.refusal.Refusal.TheVariants as refusal
use Rattle.catalogue.specs.Format.{field_cut, not_catalogue, counts_out_of_range, not_column, bad_slot, bytes_left_over, bad_mark}

abbrev pub refusal_number : Refusal → ℕ
refusal_number refusal.FieldCut = field_cut
refusal_number refusal.NotCatalogue = not_catalogue
refusal_number refusal.CountsOutOfRange = counts_out_of_range
refusal_number refusal.NotColumn = not_column
refusal_number refusal.BadSlot = bad_slot
refusal_number refusal.BytesLeftOver = bytes_left_over
refusal_number refusal.BadMark = bad_mark

-- not 0, and within a byte
pub refusal_in_byte : (e : Refusal) → (0 < refusal_number e) × (refusal_number e < 256)
refusal_in_byte refusal.FieldCut = omega arith
refusal_in_byte refusal.NotCatalogue = omega arith
refusal_in_byte refusal.CountsOutOfRange = omega arith
refusal_in_byte refusal.NotColumn = omega arith
refusal_in_byte refusal.BadSlot = omega arith
refusal_in_byte refusal.BytesLeftOver = omega arith
refusal_in_byte refusal.BadMark = omega arith
