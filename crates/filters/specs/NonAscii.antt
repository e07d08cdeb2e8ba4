-- Bytes from 128 on, where the accented letters are.
use Rattle.std.specs.Prelude.{ℕ, ◌+◌, Bool, List, get_or, leb}
use Rattle.filters.specs.Some.{some_below}

-- byte i from a place on
abbrev pub is_non_ascii : List ℕ → (p i : ℕ) → Bool
is_non_ascii b p i = leb 128 (get_or b (p + i) 0)

-- one of n bytes
abbrev pub non_ascii_in : List ℕ → (p n : ℕ) → Bool
non_ascii_in b p n = some_below (is_non_ascii b p) n
