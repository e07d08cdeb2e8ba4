-- A block of 64 rows as one word: bit d is the block's row d.
use Rattle.std.specs.Prelude.{ℕ, ◌+◌, ◌*◌, ◌%◌, ◌≤◌, ◌<◌, min, ◌≡◌, ◌⊎◌, List, length}
use Rattle.fields.specs.Numbers.{Bytes}
use Rattle.sets.specs.Set.{has, below_set}
use Rattle.bitmaps.specs.Bit.{bit}
use Rattle.bitmaps.specs.Table.{line_bits}

abbrev pub block_rows : ℕ
block_rows = 64

-- the bytes of a word
abbrev pub word_size : ℕ
word_size = 8

-- a block begins at a word of a line
pub record BlockAt (base : ℕ) : Type 0 where
  pub whole : base % block_rows ≡ 0
  pub inside : base < line_bits

-- the new table is the old one with the bits of x from byte `at` on
pub record WordPut (old : List ℕ) (at x : ℕ) (new : List ℕ) : Type 0 where
  pub size : length new ≡ length old
  pub bytes : Bytes old → Bytes new
  pub here : (d : ℕ) → d < block_rows → bit new (at * 8 + d) ≡ has x d
  pub elsewhere : (j : ℕ) → (j < at * 8) ⊎ (at * 8 + block_rows ≤ j) → bit new j ≡ bit old j

-- the rows of a block at which so many are left: all of it, or the first ones
abbrev pub rows_set : (left : ℕ) → ℕ
rows_set left = below_set (min block_rows left)
