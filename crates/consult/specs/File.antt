-- What reading a file gives, and how long each file may be.
use Rattle.std.specs.Prelude.{ℕ, ◌≤◌, ◌≡◌, List, length, take, Option, None, Some}

-- so many bytes stand at the front of the space, and as many are there
abbrev pub IsPrefixLen : ℕ → List ℕ → Type 0
IsPrefixLen n xs = (n ≤ length xs) × (n ≡ length (take n xs))

-- a number of bytes at the front of the space; of a file that cannot be read nothing is said
abbrev pub Held : List ℕ → Option ℕ → Type 0
Held space None = Unit {0}
Held space (Some n) = IsPrefixLen n space

-- "catalogue.bin (at most 65,536 bytes), question.bin (4,096) and order.bin (64)"
abbrev pub catalogue_limit : ℕ
catalogue_limit = 65536

abbrev pub question_limit : ℕ
question_limit = 4096

abbrev pub order_limit : ℕ
order_limit = 64
