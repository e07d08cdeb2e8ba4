-- The tables of a reading.
use Rattle.std.specs.Prelude.{ℕ, ◌≡◌, List, length}
use Rattle.query.specs.Format.{predicate_limit}
use Rattle.ancestors.specs.Ancestors.{ancestors_size}
use Rattle.reading.specs.declared.tables.Tables.{Tables}

abbrev pub tables : List ℕ → List ℕ → Tables
tables os A = record { offsets = os; ancestors = A }

pub record HasTables (T : Tables) : Type 0 where
  pub offsets : length T.offsets ≡ predicate_limit
  pub ancestors : length T.ancestors ≡ ancestors_size
