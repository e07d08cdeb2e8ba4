-- Lines whose bits behind their first bytes are zeros, up to the end of a word.
use Rattle.std.specs.Prelude.{ℕ, ◌+◌, ◌*◌, ◌/◌, ◌≡◌, List}
use Rattle.bitmaps.specs.Bitmap.{ones_in}
use Rattle.bitmaps.specs.Table.{lines_of}

-- so many bytes, up to the end of a word
abbrev pub whole_words : (size : ℕ) → ℕ
whole_words size = (size + 7) / 8 * 8

-- counted up to there, the first bytes of each of n lines have the ones that they have
abbrev pub NoneBehind : (size n : ℕ) → (table : List ℕ) → Type 0
NoneBehind size n table = ones_in (lines_of (whole_words size) table n) ≡ ones_in (lines_of size table n)
