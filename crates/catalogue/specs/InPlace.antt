-- A column in its place in the bytes, and the value of a row there: what every read of a row relies on; and the mark in its place.
use Rattle.std.specs.Prelude.{ℕ, ◌+◌, ◌*◌, ◌≤◌, ◌<◌, ◌≡◌, true, List, [], length, get_or, drop}
use Rattle.slots.specs.Slots.{slot_size, texts_at, valid_slots}
use Rattle.bitmaps.specs.Bitmap.{bytes_for}
use Rattle.catalogue.specs.Format.{number_tag, number_size, text_tag}
use Rattle.catalogue.specs.Catalogue.{Column, numbers, texts, Catalogue, mark_bytes}
use Rattle.catalogue.specs.Decode.{numbers_at}

-- the bytes from `start` on are a checked payload of this tag, and show the column's values
abbrev pub Shows : List ℕ → (rows tag start : ℕ) → Column → Type 0
Shows b rows tag start (numbers ns) = (tag ≡ number_tag) × (start + number_size * rows ≤ length b) × (ns ≡ numbers_at b start rows)
Shows b rows tag start (texts ts) =
    (tag ≡ text_tag) × (start + slot_size * rows ≤ length b) × (ts ≡ texts_at b start rows) × (valid_slots b start rows ≡ true)

-- some column is shown there, and has that row
abbrev pub HasRow : List ℕ → (tag start row : ℕ) → Type 0
HasRow b tag start row = (rows : ℕ) × (c : Column) × Shows b rows tag start c × (row < rows)

-- the value at a row of whatever column is shown there
abbrev pub NumberIs : List ℕ → (start row : ℕ) → ℕ → Type 0
NumberIs b start row r = (rows : ℕ) (ns : List ℕ) → Shows b rows number_tag start (numbers ns) → row < rows → r ≡ get_or ns row 0

abbrev pub TextIs : List ℕ → (start row : ℕ) → List ℕ → Type 0
TextIs b start row t = (rows : ℕ) (ts : List (List ℕ)) → Shows b rows text_tag start (texts ts) → row < rows → t ≡ get_or ts row []

-- the mark's bytes go from `at` to the end; where there is no mark, `at` is the end
pub record ShowsMark (b : List ℕ) (at : ℕ) (C : Catalogue) : Type 0 where
  pub bytes : drop at b ≡ mark_bytes C.mark
  pub inside : at ≤ length b
  pub short : length b ≤ at + bytes_for C.rows
