-- What a caller may rely on of the fields' answers, beside the values that they are.
use Rattle.std.specs.Prelude.{ℕ, ◌+◌, ◌*◌, ◌≤◌, ◌<◌, ◌≡◌, true, Option, None, Some, Result, Ok, Err, List, length}
use Rattle.catalogue.specs.declared.column.ColumnField.{ColumnField}
use Rattle.catalogue.specs.declared.column.ColumnField.TheVariants.{Numbers, Texts}
use Rattle.catalogue.specs.declared.first.Counts.{Counts}
use Rattle.catalogue.specs.declared.refusal.Refusal.{Refusal}
use Rattle.catalogue.specs.Format.{number_size, row_limit, column_limit}
use Rattle.slots.specs.Slots.{slot_size, valid_slots}
use Rattle.bitmaps.specs.Bitmap.{bytes_for}

-- not 0, and within a byte: every number of a refusal is (`refusal_in_byte`)
abbrev pub IsRefusal : ℕ → Type 0
IsRefusal e = (0 < e) × (e < 256)

abbrev pub SoundFirst : List ℕ → Result Counts Refusal → Type 0
SoundFirst b (Err e) = Unit {0}
SoundFirst b (Ok c) = (c.rows ≤ row_limit) × (c.columns ≤ column_limit) × (c.next ≤ length b)

abbrev pub SoundColumn : List ℕ → (rows : ℕ) → Result ColumnField Refusal → Type 0
SoundColumn b rows (Err e) = Unit {0}
SoundColumn b rows (Ok (Numbers start end)) = (start + number_size * rows ≡ end) × (end ≤ length b)
SoundColumn b rows (Ok (Texts start end)) = (start + slot_size * rows ≡ end) × (end ≤ length b) × (valid_slots b start rows ≡ true)

abbrev pub SoundMark : List ℕ → (rows : ℕ) → Result (Option ℕ) Refusal → Type 0
SoundMark b rows (Err e) = Unit {0}
SoundMark b rows (Ok None) = Unit {0}
SoundMark b rows (Ok (Some start)) = start + bytes_for rows ≡ length b
