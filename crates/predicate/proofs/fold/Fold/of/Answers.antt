-- `of` meets its contract: the table's rule at the byte.
use Rattle.predicate.specs.Meaning.{fold}
use Rattle.std.proofs.Common.{ap, arith, ◌∙◌}
use Rattle.predicate.proofs.fold.Fold.of.Goals as goal

pub returns : goal.returns
returns c = c.args.self.folds.rule c.from.result (omega arith) ∙ ap fold c.from.ensures
