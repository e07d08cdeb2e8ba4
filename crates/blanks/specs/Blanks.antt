-- The blanks among the probes of a task, told from the catalogue's bytes.
use Rattle.std.specs.Prelude.{ℕ, ◌+◌, ◌*◌, ◌≤◌, ◌<◌, ◌≡◌, Bool, true, false, not, ◌&&◌, List, length, get_or}
use Rattle.bitmaps.specs.Table.{line_size, line_bits, line_bit}
use Rattle.bitmaps.specs.Word.{block_rows}
use Rattle.predicate.specs.declared.outcome.Outcome.{Outcome}
use Rattle.predicate.specs.Meaning.{outcome}
use Rattle.predicate.specs.Outcome.{is_blank}
use Rattle.query.specs.Format.{predicate_limit}
use Rattle.sets.specs.Set.{has}
use Rattle.sets.specs.Kept.{Sifted}
use Rattle.gather.specs.Turns.{HasLines, TurnsWhere}
use Rattle.plan.specs.declared.table.Access.{Access}
use Rattle.plan.specs.Plan.{access_at}
use Rattle.access.specs.Access.{Accessed}
use Rattle.task.specs.Task.{Task, predicate_at}

-- the numbers of `due` that are not in `met` are among those of r, which are of `due`
abbrev pub NoesIn : (due met r : ℕ) → Type 0
NoesIn due met r = Sifted (λ d. not (has met d)) due r

-- the outcome of a task's predicate at a row
abbrev pub outcome_on : Task → (row c : ℕ) → Outcome
outcome_on T row c = outcome T.catalogue (predicate_at T.query c) row

-- probed at a row, with outcome blank
abbrev pub blank_probe : Task → (probed : List ℕ) → (row c : ℕ) → Bool
blank_probe T P row c = line_bit P c row && is_blank (outcome_on T row c)

-- the probes of predicate c as its line of one table marks them, and those of a yes that of another; and a plan that
-- shows the predicate
pub record ProbesAt (T : Task) (b q : List ℕ) (plan : List Access) (probed met : List ℕ) (c : ℕ) : Type 0 where
  pub line : c * line_size + line_size ≤ length probed
  pub met_line : c * line_size + line_size ≤ length met
  pub low : c < predicate_limit
  pub accessed : Accessed b q T.catalogue (predicate_at T.query c) (access_at plan c)
  pub inside : (row : ℕ) → row < line_bits → line_bit probed c row ≡ true → row < T.catalogue.rows
  pub yes : (row : ℕ) → row < T.catalogue.rows → line_bit met c row ≡ true → is_blank (outcome_on T row c) ≡ false

abbrev pub HasProbesAt : (b : List ℕ) → (plan : List Access) → (probed met : List ℕ) → (c : ℕ) → Type 0
HasProbesAt b plan P M c = (T : Task) × (q : List ℕ) × ProbesAt T b q plan P M c

-- the rows of the block at `base` at which predicate c was probed with outcome blank
abbrev pub BlankRows : (b : List ℕ) → (plan : List Access) → (probed met : List ℕ) → (c base r : ℕ) → Type 0
BlankRows b plan P M c base r =
    (T : Task) (q : List ℕ) → ProbesAt T b q plan P M c → (d : ℕ) → d < block_rows → has r d ≡ blank_probe T P (base + d) c

-- the probes of a task's turns as one table marks them, and those of a yes another; and a plan that shows their predicates
pub record ProbesOf (T : Task) (b q : List ℕ) (plan : List Access) (turns probed met : List ℕ) : Type 0 where
  pub lines : HasLines turns probed
  pub met_lines : HasLines turns met
  pub low : (i : ℕ) → i < length turns → get_or turns i 0 < predicate_limit
  pub accessed : (i : ℕ) → i < length turns → Accessed b q T.catalogue (predicate_at T.query (get_or turns i 0)) (access_at plan (get_or turns i 0))
  pub inside : (i row : ℕ) → i < length turns → row < line_bits → line_bit probed (get_or turns i 0) row ≡ true → row < T.catalogue.rows
  pub yes : (i row : ℕ) → i < length turns → row < T.catalogue.rows → line_bit met (get_or turns i 0) row ≡ true → is_blank (outcome_on T row (get_or turns i 0)) ≡ false

abbrev pub HasProbes : (b : List ℕ) → (plan : List Access) → (turns probed met : List ℕ) → Type 0
HasProbes b plan turns P M = (T : Task) × (q : List ℕ) × ProbesOf T b q plan turns P M

-- turn i was probed at a row, with outcome blank
abbrev pub blank_turn : Task → (turns probed : List ℕ) → (row i : ℕ) → Bool
blank_turn T turns P row i = blank_probe T P row (get_or turns i 0)

-- the sets of these turns for the rows of a block, of the first `count` turns and of all
abbrev pub BlanksBelow : (count : ℕ) → (b : List ℕ) → (plan : List Access) → (turns probed met : List ℕ) → (base : ℕ) → (gathered : List ℕ) → Type 0
BlanksBelow count b plan turns P M base gathered =
    (T : Task) (q : List ℕ) → ProbesOf T b q plan turns P M → TurnsWhere (λ i d. blank_turn T turns P (base + d) i) count gathered

abbrev pub BlankTurns : (b : List ℕ) → (plan : List Access) → (turns probed met : List ℕ) → (base : ℕ) → (gathered : List ℕ) → Type 0
BlankTurns b plan turns P M base gathered = BlanksBelow (length turns) b plan turns P M base gathered
