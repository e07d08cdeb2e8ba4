-- `fold_table` meets its contract: the rule is computed over the whole table, and `folds_table` carries it to each entry.
use Rattle.predicate.proofs.Table.{folds_table}
use Rattle.std.specs.Prelude.{refl}
use Rattle.predicate.proofs.fold.fold_table.Goals as goal

pub returns : goal.returns
returns c = folds_table _ refl refl
