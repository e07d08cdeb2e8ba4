-- A run's own tables: lines of 2,048 bits, one bit for each row that a catalogue can have.
use Rattle.std.specs.Prelude.{ℕ, ◌+◌, ◌*◌, ◌<◌, ◌≡◌, Bool, ◌&&◌, List, length, take, drop, ltb}
use Rattle.bitmaps.specs.Sums.{joined}
use Rattle.fields.specs.Numbers.{Bytes}
use Rattle.bitmaps.specs.Bit.{bit}

-- the bytes and the bits of a line
abbrev pub line_size : ℕ
line_size = 256

abbrev pub line_bits : ℕ
line_bits = 2048

-- the bit of row e in line c
abbrev pub line_bit : (table : List ℕ) → (c e : ℕ) → Bool
line_bit table c e = bit table (c * line_bits + e)

-- the first bytes of each of the first n lines, in order
unfoldable pub lines_of : (size : ℕ) → List ℕ → (n : ℕ) → List ℕ
lines_of size table n = joined (λ c. take size (drop (c * line_size) table)) n

-- a table of so many lines, whose bit e of line c is f c e
pub record HoldsBits (f : ℕ → ℕ → Bool) (lines : ℕ) (table : List ℕ) : Type 0 where
  pub size : length table ≡ lines * line_size
  pub bytes : Bytes table
  pub bits : (c e : ℕ) → c < lines → e < line_bits → line_bit table c e ≡ f c e

-- f in the first n lines and rows, and nothing beyond
abbrev pub within : (ℕ → ℕ → Bool) → (n rows : ℕ) → ℕ → ℕ → Bool
within f n rows c e = ltb c n && (ltb e rows && f c e)
