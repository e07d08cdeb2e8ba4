-- Sets of turns, one for each row of a block, as from a table that has a line for each predicate.
use Rattle.std.specs.Prelude.{ℕ, ◌+◌, ◌*◌, ◌≤◌, ◌<◌, ◌≡◌, Bool, ◌&&◌, List, length, get_or, ltb}
use Rattle.sets.specs.Set.{has, set_with}
use Rattle.sets.specs.Changed.{ChangedAt}
use Rattle.bitmaps.specs.Table.{line_size, line_bit}
use Rattle.bitmaps.specs.Word.{block_rows}

-- as many turns as a word has bits
abbrev pub turn_limit : ℕ
turn_limit = 64

-- a table has a line for the predicate of each turn
pub record HasLines (turns table : List ℕ) : Type 0 where
  pub few : length turns ≤ turn_limit
  pub inside : (i : ℕ) → i < length turns → get_or turns i 0 * line_size + line_size ≤ length table

-- a set of turns for each row of a block: of the first `count` turns those that have the row
pub record TurnsWhere (marked : (i d : ℕ) → Bool) (count : ℕ) (gathered : List ℕ) : Type 0 where
  pub size : length gathered ≡ block_rows
  pub sets : (d i : ℕ) → d < block_rows → has (get_or gathered d 0) i ≡ (ltb i count && marked i d)

-- whose predicates are marked in a table
abbrev pub TurnsBelow : (count : ℕ) → (turns table : List ℕ) → (base : ℕ) → (gathered : List ℕ) → Type 0
TurnsBelow count turns table base gathered = TurnsWhere (λ i d. line_bit table (get_or turns i 0) (base + d)) count gathered

-- of all turns
abbrev pub TurnsFor : (turns table : List ℕ) → (base : ℕ) → (gathered : List ℕ) → Type 0
TurnsFor turns table base gathered = TurnsBelow (length turns) turns table base gathered

-- at the predicate of each turn
abbrev pub AtTurns : (turns : List ℕ) → (P : ℕ → Type 0) → Type 0
AtTurns turns P = (i : ℕ) → i < length turns → P (get_or turns i 0)

-- the words that a rule may give for the turns' predicates have the rows that are marked
abbrev pub WordsMarked : (rule : (c word : ℕ) → Type 0) → (turns : List ℕ) → (marked : (i d : ℕ) → Bool) → Type 0
WordsMarked rule turns marked = (i word d : ℕ) → i < length turns → rule (get_or turns i 0) word → d < block_rows → has word d ≡ marked i d

-- of the first `count` turns each row has those whose words have the row, and of all
abbrev pub GatheredBelow : (rule : (c word : ℕ) → Type 0) → (count : ℕ) → (turns gathered : List ℕ) → Type 0
GatheredBelow rule count turns gathered = (marked : (i d : ℕ) → Bool) → WordsMarked rule turns marked → TurnsWhere marked count gathered

abbrev pub GatheredBy : (rule : (c word : ℕ) → Type 0) → (turns gathered : List ℕ) → Type 0
GatheredBy rule turns gathered = GatheredBelow rule (length turns) turns gathered

-- turn i is added to the sets of the rows that pass a test
abbrev pub AddedTo : (test : ℕ → Bool) → (i : ℕ) → (before after : List ℕ) → Type 0
AddedTo test i before after = ChangedAt test (λ s. set_with s i) before after

-- to those of a word
abbrev pub Added : (word i : ℕ) → (before after : List ℕ) → Type 0
Added word i before after = AddedTo (has word) i before after
