-- The fold table follows the fold rule.
use Prim.Native.Nat.{ℕ}
use mathlib.Core.Path.{◌≡◌}
use mathlib.Core.Bool.{true}
use mathlib.Core.List.{List}
use lib.ListN.{length}
use Rattle.predicate.specs.Meaning.{fold}
use Rattle.predicate.specs.Outcome.{Folds}
use Rattle.fields.proofs.Tables.{every, table_at}

pub folds_table : (xs : List ℕ) → length xs ≡ 256 → every fold 0 xs ≡ true → Folds xs
folds_table xs e t = record { size = e; rule = table_at fold xs 256 e t }
