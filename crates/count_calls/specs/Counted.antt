-- What the calls count of a table.
use Rattle.std.specs.Prelude.{ℕ, ◌/◌, min, List, length, take}
use Rattle.bitmaps.specs.Table.{line_size, lines_of}

-- "the longest table, 16,384" bytes
abbrev pub table_limit : ℕ
table_limit = 16384

-- "a table's further bytes never count"
abbrev pub counted : (table : List ℕ) → List ℕ
counted table = take table_limit table

-- the first bytes of each of so many lines, at most as many as there are, and at most whole lines
abbrev pub counted_lines : (table : List ℕ) → (lines size : ℕ) → List ℕ
counted_lines table lines size = lines_of (min line_size size) (counted table) (min (length (counted table) / line_size) lines)
