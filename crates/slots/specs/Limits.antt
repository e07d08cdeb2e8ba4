-- How the code looks at a slot's length and padding: a table of the bits that may not stand in a byte.
use Rattle.std.specs.Prelude.{ℕ, ◌+◌, ◌-◌, ◌<◌, ◌≡◌, ◌&&◌, cond, List, length, get_or, leb, ltb}
use Rattle.slots.specs.Slots.{slot_size, text_limit}

-- the greatest number that a length byte can have
abbrev pub greatest_length : ℕ
greatest_length = 255

-- Byte i of a slot of length n is held to entry 255 - n + i. Entries 232 to 255 forbid nothing, all others every bit: so of a length
-- up to 23 the length byte and the text are free and the bytes after it are not, and of a greater one the length byte itself is not.
abbrev pub limit_of : ℕ → ℕ
limit_of k = cond (leb (greatest_length - text_limit) k && ltb k (greatest_length + 1)) 0 255

abbrev pub limit_count : ℕ
limit_count = greatest_length + slot_size

pub record Limits (table : List ℕ) : Type 0 where
  pub size : length table ≡ limit_count
  pub rule : (k : ℕ) → k < limit_count → get_or table k 0 ≡ limit_of k
