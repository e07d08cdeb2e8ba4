-- One predicate at the due rows of a block of 64: what is lent, and what is answered. Bit d is row base + d.
use Rattle.std.specs.Prelude.{ℕ, ◌+◌, ◌-◌, ◌<◌, ◌≡◌, Bool, true, List}
use Rattle.catalogue.specs.Catalogue.{Column}
use Rattle.catalogue.specs.InPlace.{Shows}
use Rattle.predicate.specs.declared.outcome.Outcome.{Outcome}
use Rattle.predicate.specs.Kinds.{plain_kind}
use Rattle.predicate.specs.Meaning.{low_of, high_of, plain_of, outcome_of, truth}
use Rattle.predicate.specs.Outcome.{is_blank}
use Rattle.predicate.specs.Payload.{kind_fits, operand_fits}
use Rattle.sets.specs.Set.{has}
use Rattle.sets.specs.Kept.{KeptBy}
use Rattle.numbers.specs.declared.range.Range.{Range}

-- what a range asks: its lowest number and how many follow it
pub record RangeFor (o : List ℕ) (r : Range) : Type 0 where
  pub low_is : r.low ≡ low_of o
  pub width_is : r.width ≡ high_of o - low_of o

-- the due rows are rows of a column that is shown there, and kind and operand fit it
pub record ShownRows (b : List ℕ) (start base kind : ℕ) (o : List ℕ) (due rows tag : ℕ) (c : Column) : Type 0 where
  pub shown : Shows b rows tag start c
  pub kind_fits_lem : kind_fits tag (plain_kind kind) ≡ true
  pub operand_fits_lem : operand_fits (plain_kind kind) o ≡ true
  pub inside : (d : ℕ) → has due d ≡ true → base + d < rows

-- kind and operand fit a column of this tag
abbrev pub FitsColumn : (tag kind : ℕ) → (operand : List ℕ) → Type 0
FitsColumn tag kind o = (kind_fits tag (plain_kind kind) ≡ true) × (operand_fits (plain_kind kind) o ≡ true)

-- the due rows at which the outcome is one of these, for whatever column is shown there
abbrev pub OutcomesFor : (these : Outcome → Bool) → List ℕ → (start base kind : ℕ) → (operand : List ℕ) → (due r : ℕ) → Type 0
OutcomesFor these b start base kind o due r =
    (rows tag : ℕ) (c : Column) → ShownRows b start base kind o due rows tag c →
    KeptBy (λ d. these (outcome_of c kind o (base + d))) due r

-- those of a yes
abbrev pub MetFor : List ℕ → (start base kind : ℕ) → (operand : List ℕ) → (due r : ℕ) → Type 0
MetFor b start base kind o due r = OutcomesFor truth b start base kind o due r

-- those of a blank, whatever the operand
abbrev pub BlankFor : List ℕ → (start base kind due r : ℕ) → Type 0
BlankFor b start base kind due r = (o : List ℕ) → OutcomesFor is_blank b start base kind o due r

-- the due rows at which the outcome of the kind below the opposites is yes
abbrev pub PlainMetFor : List ℕ → (start base kind : ℕ) → (operand : List ℕ) → (due r : ℕ) → Type 0
PlainMetFor b start base kind o due r =
    (rows tag : ℕ) (c : Column) → ShownRows b start base kind o due rows tag c →
    KeptBy (λ d. truth (plain_of c (plain_kind kind) o (base + d))) due r
