-- Order 6's "entries still in the house", as the rows of a block that take part in a run.
use Rattle.std.specs.Prelude.{ℕ, ◌-◌, ◌/◌, ◌≡◌, List, length}
use Rattle.fields.specs.Numbers.{Bytes}
use Rattle.words.specs.Words.{word_at}
use Rattle.sets.specs.Set.{set_minus}
use Rattle.bitmaps.specs.Bit.{bit}
use Rattle.bitmaps.specs.Table.{line_size}
use Rattle.bitmaps.specs.Word.{word_size, rows_set}

-- a line of bits with those of a mark, and no others
pub record WithdrawnFor (mark line : List ℕ) : Type 0 where
  pub size : length line ≡ line_size
  pub bytes : Bytes line
  pub bits : (e : ℕ) → bit line e ≡ bit mark e

-- of the block at `base` the rows that there are, without the withdrawn
abbrev pub present_set : (withdrawn : List ℕ) → (rows base : ℕ) → ℕ
present_set withdrawn rows base = set_minus (rows_set (rows - base)) (word_at withdrawn (base / 8) word_size)
