-- Words: numbers with the least significant byte first.
use Rattle.std.specs.Prelude.{ℕ, zero, suc, ◌+◌, ◌*◌, List, get_or}

-- so many bytes at a place as one number
unfoldable pub word_at : List ℕ → (at width : ℕ) → ℕ
word_at b at zero = 0
word_at b at (suc n) = get_or b at 0 + 256 * word_at b (at + 1) n
