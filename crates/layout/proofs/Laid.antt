-- The whole catalogue: what its first field and the layout of its columns tell of it, and what its layout tells of a column.
use Prim.Native.Nat.{ℕ, zero, suc, ◌+◌, ◌≤◌, ◌<◌}
use native.Mathlib.Omega.{arith}
use mathlib.Core.Path.{◌≡◌, refl, sym}
use mathlib.Core.List.{List, [], ◌∷◌}
use lib.ListN.{length, get_or, drop, drop_of_length-le}
use Rattle.std.specs.Prelude.{Option, None, Some, Result, Ok, Err}
use Rattle.std.specs.Option.{unwrap_or}
use Rattle.fields.specs.Decoded.{Decoded, refused, accepted, and_then}
use Rattle.fields.specs.Header.{header_at}
use Rattle.catalogue.specs.declared.first.Counts.{Counts}
use Rattle.catalogue.specs.declared.refusal.Refusal.{Refusal}
use Rattle.bitmaps.specs.Bitmap.{bytes_for}
use Rattle.catalogue.specs.Format.{row_limit, column_limit}
use Rattle.catalogue.specs.Catalogue.{Column, numbers, Mark, unmarked, marked, Catalogue, mark_bytes}
use Rattle.catalogue.specs.Refusal.{refusal_number}
use Rattle.catalogue.specs.Mark.{mark_field_at, mark_of}
use Rattle.catalogue.specs.Decode.{Columns, columns_at, catalogue_of, first_field_of, decode_catalogue}
use Rattle.catalogue.specs.Sound.{SoundMark}
use Rattle.catalogue.specs.InPlace.{Shows}
use Rattle.layout.specs.declared.ColumnsLayout.{ColumnsLayout}
use Rattle.layout.specs.declared.Layout.{Layout}
use Rattle.layout.specs.Layout.{ShowsAll, ColumnsLaid, ColumnsLaidOut, Laid, LaidOut}

-- what the columns' layout tells of the columns
module _ (b : List ℕ) (rows n : ℕ) where
  columns_refused : (e : Refusal) (d : Decoded Columns) → ColumnsLaidOut b rows n (Err e) d → d ≡ refused (refusal_number e)
  columns_refused e (refused number) k = rw k refl
  columns_refused e (accepted C) k = absurd k

  columns_accepted : (l : ColumnsLayout) (d : Decoded Columns) → ColumnsLaidOut b rows n (Ok l) d → (C : Columns) × (d ≡ accepted C) × ColumnsLaid b rows n l C
  columns_accepted l (refused number) k = absurd k
  columns_accepted l (accepted C) k = (C, refl, k)

-- the first field is refused
pub laid_first_refused : (b : List ℕ) (e : Refusal) → Err e ≡ first_field_of b (header_at b 0 (length b)) → LaidOut b (Err e) (decode_catalogue b)
unfolding decode_catalogue
laid_first_refused b e q = rw (← q) refl

-- the first field tells these counts
module _ (b : List ℕ) (c : Counts) (q : Ok c ≡ first_field_of b (header_at b 0 (length b))) where
  decoded : decode_catalogue b ≡ and_then (columns_at b c.rows c.columns c.next) (catalogue_of b c.rows)
  unfolding decode_catalogue
  decoded = rw (← q) refl

  -- a column is refused
  pub laid_columns_refused : (e : Refusal) → ColumnsLaidOut b c.rows c.columns (Err e) (columns_at b c.rows c.columns c.next) → LaidOut b (Err e) (decode_catalogue b)
  laid_columns_refused e o = rw (decoded, columns_refused b c.rows c.columns e (columns_at b c.rows c.columns c.next) o) refl

  -- the columns are all there: what follows them decides
  module _ (l : ColumnsLayout) (o : ColumnsLaidOut b c.rows c.columns (Ok l) (columns_at b c.rows c.columns c.next)) where
    columns : (C : Columns) × (columns_at b c.rows c.columns c.next ≡ accepted C) × ColumnsLaid b c.rows c.columns l C
    columns = columns_accepted b c.rows c.columns l (columns_at b c.rows c.columns c.next) o

    pub laid_mark_refused : (e : Refusal) → Err e ≡ mark_field_at b c.rows l.end → LaidOut b (Err e) (decode_catalogue b)
    laid_mark_refused e i = let (C, d, k) = columns in rw (decoded, d, ← k.end, ← i) refl

    -- a mark, or none
    laid_with : (f : Result (Option ℕ) Refusal) (m : Mark) (at : ℕ) → f ≡ mark_field_at b c.rows l.end → c.rows ≤ row_limit → c.columns ≤ column_limit
        → mark_of b f ≡ accepted m → drop at b ≡ mark_bytes m → at ≤ length b → length b ≤ at + bytes_for c.rows
        → LaidOut b (Ok (record { rows = c.rows; columns = c.columns; tags = l.tags; starts = l.starts; mark = at })) (decode_catalogue b)
    laid_with f m at p short few i shown inside near =
        let (C, d, k) = columns in
        rw (decoded, d, ← k.end, ← p, i)
        (record {
          rows = refl;
          columns = sym k.count;
          short = short;
          few = few;
          shown = k.shown;
          tags_size = k.tags_size;
          starts_size = k.starts_size;
          mark = record { bytes = shown; inside = inside; short = near };
        })

    pub laid_all : (m : Option ℕ) → Ok m ≡ mark_field_at b c.rows l.end → SoundMark b c.rows (Ok m) → c.rows ≤ row_limit → c.columns ≤ column_limit
        → LaidOut b (Ok (record { rows = c.rows; columns = c.columns; tags = l.tags; starts = l.starts; mark = unwrap_or m (length b) })) (decode_catalogue b)
    laid_all None p s short few = laid_with (Ok None) unmarked (length b) p short few refl (drop_of_length-le b {i = length b} (omega arith)) (omega arith) (omega arith)
    laid_all (Some start) p s short few = laid_with (Ok (Some start)) (marked (drop start b)) start p short few refl refl (omega (arith, s)) (omega (arith, s))

shows_at : (b : List ℕ) (rows : ℕ) (tags starts : List ℕ) (j i : ℕ) (cs : List Column) → ShowsAll b rows tags starts j cs → i < length cs → Shows b rows (get_or tags (j + i) 0) (get_or starts (j + i) 0) (get_or cs i (numbers []))
shows_at b rows tags starts j i [] s l = absurd (omega arith)
shows_at b rows tags starts j zero (c ∷ cs) s l = let z : j + 0 ≡ j = omega arith in rw z s.0
shows_at b rows tags starts j (suc i) (c ∷ cs) s l = let z : j + suc i ≡ j + 1 + i = omega arith in rw z (shows_at b rows tags starts (j + 1) i cs s.1 (omega arith))

-- column i of an accepted catalogue, as the layout shows it
pub column_shown : {b : List ℕ} {l : Layout} {C : Catalogue} (i : ℕ) → Laid b l C → i < l.columns
    → Shows b C.rows (get_or l.tags i 0) (get_or l.starts i 0) (get_or C.columns i (numbers []))
column_shown {b} {l} {C} i h k =
    let y : 0 + i ≡ i = omega arith in
    rw y at (shows_at b C.rows l.tags l.starts 0 i C.columns h.shown (omega (arith, h.columns)))
