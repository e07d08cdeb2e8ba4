-- A block of 64 rows of a column, with a word of the due ones: bit d is row base + d.
use Rattle.std.specs.Prelude.{ℕ, ◌+◌, ◌*◌, ◌≡◌, true, List}
use Rattle.slots.specs.Slots.{slot_size, text_at}
use Rattle.catalogue.specs.InPlace.{HasRow}
use Rattle.sets.specs.Set.{has}

-- every due row is one of the column shown there
abbrev pub HasDueRows : List ℕ → (tag start base due : ℕ) → Type 0
HasDueRows b tag start base due = (d : ℕ) → has due d ≡ true → HasRow b tag start (base + d)

-- each number of the set x is one of y
abbrev pub IsWithin : (x y : ℕ) → Type 0
IsWithin x y = (d : ℕ) → has x d ≡ true → has y d ≡ true

-- where a row's slot begins, with its length byte; its text
abbrev pub slot_of : (start row : ℕ) → ℕ
slot_of start row = start + slot_size * row

abbrev pub text_of : List ℕ → (start row : ℕ) → List ℕ
text_of b start row = text_at b (slot_of start row)
