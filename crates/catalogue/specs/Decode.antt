-- A catalogue's bytes as values; the checks in document 01's order, front to back, the first that fails decides.
use Rattle.std.specs.Prelude.{ℕ, zero, suc, ◌+◌, ◌-◌, ◌*◌, ◌&&◌, cond, Option, None, Some, Result, Ok, Err, List, [], ◌∷◌, length, get_or, leb, eqb}
use Rattle.fields.specs.declared.header.Field.{Field}
use Rattle.fields.specs.Decoded.{Decoded, refused, accepted, mapped, and_then}
use Rattle.fields.specs.Numbers.{number_at}
use Rattle.fields.specs.Header.{header_at}
use Rattle.catalogue.specs.declared.column.ColumnField.{ColumnField}
use Rattle.catalogue.specs.declared.column.ColumnField.TheVariants as field
use Rattle.catalogue.specs.declared.first.Counts.{Counts}
use Rattle.catalogue.specs.declared.refusal.Refusal.{Refusal}
use Rattle.catalogue.specs.declared.refusal.Refusal.TheVariants as refusal
use Rattle.catalogue.specs.Refusal.{refusal_number}
use Rattle.catalogue.specs.Format.{first_tag, first_size, number_tag, number_size, text_tag, row_limit, column_limit}
use Rattle.catalogue.specs.Catalogue.{Column, numbers, texts, Catalogue}
use Rattle.catalogue.specs.Mark.{mark_field_at, mark_of}
use Rattle.slots.specs.Slots.{slot_size, texts_at, valid_slots}

-- so many numbers of four bytes from a place on
unfoldable pub numbers_at : List ℕ → (at n : ℕ) → List ℕ
numbers_at b at zero = []
numbers_at b at (suc n) = number_at b at number_size ∷ numbers_at b (at + number_size) n

-- a first field that tells these
abbrev pub ok_counts : (rows columns next : ℕ) → Result Counts Refusal
ok_counts rows columns next = Ok (record { rows = rows; columns = columns; next = next })

-- "entries E (two bytes, 0 to 2,048), columns C (one byte, 1 to 16)"; the columns begin at `next`
unfoldable pub counts_at : (rows columns next : ℕ) → Result Counts Refusal
counts_at rows columns next = cond (leb rows row_limit && (leb 1 columns && leb columns column_limit)) (ok_counts rows columns next) (Err refusal.CountsOutOfRange)

-- "First field: tag 67, length 3"
unfoldable pub first_field_of : List ℕ → Option Field → Result Counts Refusal
first_field_of b None = Err refusal.FieldCut
first_field_of b (Some f) =
    cond (eqb f.tag first_tag && eqb (f.end - f.start) first_size)
    (counts_at (number_at b f.start 2) (get_or b (f.start + 2) 0) f.end)
    (Err refusal.NotCatalogue)

-- "Tag 78 is a number column: E numbers of four bytes", "Tag 84 is a text column: E slots of 24 bytes"
unfoldable pub column_of : List ℕ → (rows : ℕ) → Option Field → Result ColumnField Refusal
column_of b rows None = Err refusal.FieldCut
column_of b rows (Some f) =
    cond (eqb f.tag number_tag && eqb (f.end - f.start) (number_size * rows)) (Ok (field.Numbers f.start f.end))
    (cond (eqb f.tag text_tag && eqb (f.end - f.start) (slot_size * rows)) (cond (valid_slots b f.start rows) (Ok (field.Texts f.start f.end)) (Err refusal.BadSlot))
    (Err refusal.NotColumn))

-- columns one after the other, and the place where they end
pub record Columns : Type 0 where
  pub columns : List Column
  pub end : ℕ

abbrev pub column_before : Column → Columns → Columns
column_before c rest = record { columns = c ∷ rest.columns; end = rest.end }

-- a column's values before those of the columns after it
abbrev pub column_then : List ℕ → (rows : ℕ) → Result ColumnField Refusal → (ℕ → Decoded Columns) → Decoded Columns
column_then b rows (Err e) rest = refused (refusal_number e)
column_then b rows (Ok (field.Numbers start end)) rest = mapped (column_before (numbers (numbers_at b start rows))) (rest end)
column_then b rows (Ok (field.Texts start end)) rest = mapped (column_before (texts (texts_at b start rows))) (rest end)

-- so many columns from a place on
unfoldable pub columns_at : List ℕ → (rows n at : ℕ) → Decoded Columns
columns_at b rows zero at = accepted (record { columns = []; end = at })
columns_at b rows (suc n) at = column_then b rows (column_of b rows (header_at b at (length b))) (λ next. columns_at b rows n next)

-- "At the end: 6, bytes left over.", or order 6's mark
abbrev pub catalogue_of : List ℕ → (rows : ℕ) → Columns → Decoded Catalogue
catalogue_of b rows c = mapped (λ m. record { rows = rows; columns = c.columns; mark = m }) (mark_of b (mark_field_at b rows c.end))

abbrev pub first_then : List ℕ → Result Counts Refusal → Decoded Catalogue
first_then b (Err e) = refused (refusal_number e)
first_then b (Ok c) = and_then (columns_at b c.rows c.columns c.next) (catalogue_of b c.rows)

-- "Checking a catalogue walks front to back."
unfoldable pub decode_catalogue : List ℕ → Decoded Catalogue
decode_catalogue b = first_then b (first_field_of b (header_at b 0 (length b)))
