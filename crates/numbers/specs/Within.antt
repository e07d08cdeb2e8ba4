-- The number of a row in the bytes, and what a range asks of it.
use Rattle.std.specs.Prelude.{ℕ, ◌+◌, ◌*◌, Bool, ◌&&◌, List, nat_le}
use Rattle.fields.specs.Numbers.{number_at}
use Rattle.catalogue.specs.Format.{number_size}

abbrev pub number_in_row : List ℕ → (start row : ℕ) → ℕ
number_in_row b start row = number_at b (start + number_size * row) number_size

-- n is low or one of the so many numbers after it
abbrev pub within : (low width n : ℕ) → Bool
within low width n = nat_le low n && nat_le n (low + width)
