-- A line of a text: a label and a number.
use Rattle.std.specs.Prelude.{ℕ, ◌+◌, List, [], ◌∷◌, ◌++◌, length}
use Rattle.fields.specs.Decimal.{decimal}

-- a label and a number, "each ended by byte 10"
unfoldable pub line : (label : List ℕ) (x : ℕ) → List ℕ
line label x = label ++ decimal x ++ (10 ∷ [])

-- room for a number: one of eight bytes has at most twenty digits
abbrev pub number_room : ℕ
number_room = 20

-- room for a line: its label, a number, byte 10
abbrev pub line_room : (label : List ℕ) → ℕ
line_room label = length label + number_room + 1
