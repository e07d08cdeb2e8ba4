-- What may follow the last column: order 6's withdrawal mark, or nothing.
use Rattle.std.specs.Prelude.{ℕ, ◌-◌, ◌/◌, ◌%◌, ◌^◌, Bool, not, ◌&&◌, cond, Option, None, Some, Result, Ok, Err, List, length, get_or, take, drop, leb, eqb}
use Rattle.fields.specs.declared.header.Field.{Field}
use Rattle.fields.specs.Decoded.{Decoded, refused, accepted}
use Rattle.fields.specs.Header.{header_at}
use Rattle.bitmaps.specs.Bitmap.{bytes_for}
use Rattle.catalogue.specs.declared.refusal.Refusal.{Refusal}
use Rattle.catalogue.specs.declared.refusal.Refusal.TheVariants as refusal
use Rattle.catalogue.specs.Refusal.{refusal_number}
use Rattle.catalogue.specs.Format.{mark_tag}
use Rattle.catalogue.specs.Catalogue.{Mark, unmarked, marked}

-- "a stray bit": the byte that holds the bit behind the last row's has a one there or higher; past the last byte there is none
unfoldable pub stray_bit : (mark : List ℕ) → (rows : ℕ) → Bool
stray_bit mark rows = leb (2 ^ (rows % 8)) (get_or mark (rows / 8) 0)

-- "where byte 87 follows the last column, 1 comes first, then 23, a wrong length or a stray bit; 6 is for .. bytes after the mark"
unfoldable pub mark_field_of : List ℕ → (rows : ℕ) → Option Field → Result (Option ℕ) Refusal
mark_field_of b rows None = Err refusal.FieldCut
mark_field_of b rows (Some f) =
    cond (eqb (f.end - f.start) (bytes_for rows) && not (stray_bit (take (f.end - f.start) (drop f.start b)) rows))
    (cond (eqb f.end (length b)) (Ok (Some f.start)) (Err refusal.BytesLeftOver))
    (Err refusal.BadMark)

-- "6 is for any other byte there"; the last column ends at this place
unfoldable pub mark_field_at : List ℕ → (rows at : ℕ) → Result (Option ℕ) Refusal
mark_field_at b rows at =
    cond (eqb at (length b)) (Ok None)
    (cond (eqb (get_or b at 0) mark_tag) (mark_field_of b rows (header_at b at (length b))) (Err refusal.BytesLeftOver))

-- the mark's bytes: nothing follows them
abbrev pub mark_of : List ℕ → Result (Option ℕ) Refusal → Decoded Mark
mark_of b (Err e) = refused (refusal_number e)
mark_of b (Ok None) = accepted unmarked
mark_of b (Ok (Some start)) = accepted (marked (drop start b))
