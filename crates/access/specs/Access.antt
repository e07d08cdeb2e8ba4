-- What an access shows, and what a planned predicate gives.
use Rattle.std.specs.Prelude.{ℕ, ◌+◌, ◌≤◌, ◌<◌, ◌≡◌, Bool, true, List, length, take, drop}
use Rattle.catalogue.specs.Catalogue.{Catalogue}
use Rattle.catalogue.specs.InPlace.{Shows}
use Rattle.predicate.specs.declared.outcome.Outcome.{Outcome}
use Rattle.predicate.specs.Kinds.{plain_kind}
use Rattle.predicate.specs.Meaning.{Predicate, column_asked, outcome, truth}
use Rattle.predicate.specs.Outcome.{is_blank}
use Rattle.predicate.specs.Payload.{kind_fits, operand_fits}
use Rattle.sets.specs.Set.{has}
use Rattle.sets.specs.Kept.{KeptBy}
use Rattle.plan.specs.declared.table.Access.{Access}

-- the bytes of an operand in the query
abbrev pub operand_in : (q : List ℕ) → Access → List ℕ
operand_in q x = take x.len (drop x.place q)

-- an access shows a predicate: the column's values in the catalogue's bytes, the operand in the query's
pub record Accessed (b q : List ℕ) (C : Catalogue) (p : Predicate) (x : Access) : Type 0 where
  pub shown : Shows b C.rows x.tag x.start (column_asked C p)
  pub kind : x.kind ≡ p.kind
  pub operand : operand_in q x ≡ p.operand
  pub placed : x.place + x.len ≤ length q
  pub kind_fits_lem : kind_fits x.tag (plain_kind x.kind) ≡ true
  pub operand_fits_lem : operand_fits (plain_kind x.kind) (operand_in q x) ≡ true

-- some predicate is shown there, of a catalogue that has that row
abbrev pub HasOutcome : (b q : List ℕ) → Access → (row : ℕ) → Type 0
HasOutcome b q x row = (C : Catalogue) × (p : Predicate) × Accessed b q C p x × (row < C.rows)

-- the outcome at a row of whatever predicate is shown there
abbrev pub AccessGives : (b q : List ℕ) → Access → (row : ℕ) → Outcome → Type 0
AccessGives b q x row a = (C : Catalogue) (p : Predicate) → Accessed b q C p x → row < C.rows → a ≡ outcome C p row

-- the due rows of the block that begins with row `base` are among so many rows
abbrev pub RowsIn : (base due rows : ℕ) → Type 0
RowsIn base due rows = (d : ℕ) → has due d ≡ true → base + d < rows

-- some predicate is shown there, of a catalogue that has the due rows
abbrev pub HasOutcomes : (b q : List ℕ) → Access → (base due : ℕ) → Type 0
HasOutcomes b q x base due = (C : Catalogue) × (p : Predicate) × Accessed b q C p x × RowsIn base due C.rows

-- the due rows at which the outcome of whatever predicate is shown there is one of these
abbrev pub OutcomesAre : (these : Outcome → Bool) → (b q : List ℕ) → Access → (base due r : ℕ) → Type 0
OutcomesAre these b q x base due r =
    (C : Catalogue) (p : Predicate) → Accessed b q C p x → RowsIn base due C.rows → KeptBy (λ d. these (outcome C p (base + d))) due r

-- those at which it is taken for yes
abbrev pub MetIs : (b q : List ℕ) → Access → (base due met : ℕ) → Type 0
MetIs b q x base due met = OutcomesAre truth b q x base due met

-- some predicate is shown there, of some query
abbrev pub HasOutcomesAnyQuery : (b : List ℕ) → Access → (base due : ℕ) → Type 0
HasOutcomesAnyQuery b x base due = (q : List ℕ) × HasOutcomes b q x base due

-- those at which it is blank, whatever the query: the operand is not asked for
abbrev pub BlankIs : (b : List ℕ) → Access → (base due blank : ℕ) → Type 0
BlankIs b x base due blank = (q : List ℕ) → OutcomesAre is_blank b q x base due blank
