-- The test of `due_within` meets its contract: the number read is that of the row.
use Rattle.numbers.proofs.Rows.{number_value}
use Rattle.numbers.specs.Within.{within}
use Rattle.std.proofs.Common.{ap, ◌∙◌}
use Rattle.numbers.proofs.fn.due_within.kept_where.Goals as goal

pub returns : goal.returns
returns c =
    c.is_within.ensures ∙ ap (within c.captures.low c.captures.width) (number_value _ _ _ c.requires.0 _ (rw c.from.ensures at c.number_at.ensures))
