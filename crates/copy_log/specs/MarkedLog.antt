-- The log that the code writes from marks: in line c of the table `probed` the rows at which predicate c was probed, in line c of `met` those of a yes; blanks are told by turn.
use Rattle.std.specs.Prelude.{ℕ, ◌+◌, ◌*◌, ◌<◌, ◌≡◌, Bool, true, false, List, [], ◌∷◌, length, get_or}
use Rattle.strategy.specs.Assignment.{keep_if}
use Rattle.sets.specs.Set.{has}
use Rattle.bitmaps.specs.Sums.{joined, digit}
use Rattle.bitmaps.specs.Table.{line_bit}
use Rattle.task.specs.Log.{probe_field}

-- an outcome's number from its marks: 1 where it is yes, 2 where it is blank
abbrev pub marked_number : (met blank : Bool) → ℕ
marked_number met blank = digit met + 2 * digit blank

-- the field of a turn, where it is a probe's
abbrev pub field_if : (probed : Bool) → (row c outcome : ℕ) → List ℕ
field_if true row c o = probe_field row c o
field_if false row c o = []

-- the field of turn i at a row: `due` has the turns at which the row was probed, `met` those of a yes, `blank` those of a blank
abbrev pub turn_field : (turns : List ℕ) → (row due met blank i : ℕ) → List ℕ
turn_field turns row due met blank i = field_if (has due i) row (get_or turns i 0) (marked_number (has met i) (has blank i))

-- the fields of a row, turn after turn
unfoldable pub turn_fields : (turns : List ℕ) → (row due met blank : ℕ) → List ℕ
turn_fields turns row due met blank = joined (turn_field turns row due met blank) (length turns)

-- the same from the tables, the blanks told by turn
abbrev pub marked_field : (turns probed met : List ℕ) → (blank : (i : ℕ) → Bool) → (row i : ℕ) → List ℕ
marked_field turns P M blank row i = field_if (line_bit P (get_or turns i 0) row) row (get_or turns i 0) (marked_number (line_bit M (get_or turns i 0) row) (blank i))

unfoldable pub marked_row : (turns probed met : List ℕ) → (blank : (i : ℕ) → Bool) → (row : ℕ) → List ℕ
marked_row turns P M blank row = joined (marked_field turns P M blank row) (length turns)

-- blanks by row and turn
unfoldable pub marked_log : (turns probed met : List ℕ) → (blank : (row i : ℕ) → Bool) → (rows : ℕ) → List ℕ
marked_log turns P M blank rows = joined (λ row. marked_row turns P M (blank row) row) rows

-- the predicates of the turns that are marked at a row, in the turns' sequence
unfoldable pub marked_at : (table : List ℕ) → (row : ℕ) → (turns : List ℕ) → List ℕ
marked_at table row [] = []
marked_at table row (c ∷ cs) = keep_if (line_bit table c row) c (marked_at table row cs)

-- the rows of a block, from `base` on; blanks by place in the block and turn
abbrev pub marked_from : (turns probed met : List ℕ) → (blank : (d i : ℕ) → Bool) → (base count : ℕ) → List ℕ
marked_from turns P M blank base count = joined (λ d. marked_row turns P M (blank d) (base + d)) count

-- as a set of turns for each row of the block has them
abbrev pub blanks_in : (blanks : List ℕ) → (d i : ℕ) → Bool
blanks_in blanks d i = has (get_or blanks d 0) i

-- a set of turns that there are
abbrev pub HasTurns : (turns : List ℕ) → (due : ℕ) → Type 0
HasTurns turns due = (i : ℕ) → has due i ≡ true → i < length turns
