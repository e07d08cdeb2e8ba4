-- A catalogue as values; of its bytes the mark's alone are kept as they stand.
use Rattle.std.specs.Prelude.{ℕ, Bool, List, []}
use Rattle.bitmaps.specs.Bit.{bit}

-- a value for each row, document 01's entry: "Tag 78 is a number column", "Tag 84 is a text column"
pub data Column : Type 0 where
  numbers : List ℕ → Column
  texts : List (List ℕ) → Column

-- order 6's withdrawal mark, with its bytes: "A catalogue may end with one field"
pub data Mark : Type 0 where
  unmarked : Mark
  marked : List ℕ → Mark

pub record Catalogue : Type 0 where
  pub rows : ℕ
  pub columns : List Column
  pub mark : Mark

-- the same catalogue with another mark
abbrev pub with_mark : Catalogue → Mark → Catalogue
with_mark C m = record { rows = C.rows; columns = C.columns; mark = m }

-- none where there is no mark
abbrev pub mark_bytes : Mark → List ℕ
mark_bytes unmarked = []
mark_bytes (marked m) = m

-- "set out like the listed table; a one bit marks a withdrawn entry"
abbrev pub is_withdrawn : Catalogue → (row : ℕ) → Bool
is_withdrawn C row = bit (mark_bytes C.mark) row
