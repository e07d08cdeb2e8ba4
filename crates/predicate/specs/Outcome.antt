-- The terms of the contracts of this crate and of those above it.
use Rattle.std.specs.Prelude.{ℕ, ◌<◌, ◌≤◌, ◌≡◌, Bool, true, false, List, length, get_or}
use Rattle.catalogue.specs.Catalogue.{Column}
use Rattle.catalogue.specs.InPlace.{Shows}
use Rattle.predicate.specs.declared.outcome.Outcome.{Outcome}
use Rattle.predicate.specs.declared.outcome.Outcome.TheVariants.{No, Yes, Blank}
use Rattle.predicate.specs.Kinds.{range_kind}
use Rattle.predicate.specs.Meaning.{fold, range_size, plain_of, outcome_of}

-- a fold table: 256 entries, each by the rule
pub record Folds (table : List ℕ) : Type 0 where
  pub size : length table ≡ 256
  pub rule : (x : ℕ) → x < 256 → get_or table x 0 ≡ fold x

-- the operand of a range holds its two numbers
abbrev pub HasRange : (kind : ℕ) (operand : List ℕ) → Type 0
HasRange kind o = kind ≡ range_kind → range_size ≤ length o

-- the outcome at a row of whatever column is shown there
abbrev pub PlainIs : List ℕ → (tag start kind : ℕ) (operand : List ℕ) (row : ℕ) → Outcome → Type 0
PlainIs b tag start kind o row r =
    (rows : ℕ) (c : Column) → Shows b rows tag start c → row < rows → r ≡ plain_of c kind o row

abbrev pub OutcomeIs : List ℕ → (tag start kind : ℕ) (operand : List ℕ) (row : ℕ) → Outcome → Type 0
OutcomeIs b tag start kind o row r =
    (rows : ℕ) (c : Column) → Shows b rows tag start c → row < rows → r ≡ outcome_of c kind o row

-- whether an outcome is blank
abbrev pub is_blank : Outcome → Bool
is_blank No = false
is_blank Yes = false
is_blank Blank = true
