-- `outcome_at` meets its contract: the outcome of the plain kind, or its opposite, as `outcome_of` has it.
use Rattle.predicate.proofs.OutcomeLaws.{outcome_opposite, outcome_plain}
use Rattle.std.proofs.Common.{sym, ◌∙◌}
use Rattle.predicate.proofs.row.outcome_at.Goals as goal

pub plain_at-outcome-requires : goal.plain_at-outcome-requires
plain_at-outcome-requires c = λ e. c.requires (sym c.plain_kind-plain.ensures ∙ e)

pub returns-then-kind-lt-OPPOSITE_FROM : goal.returns-then-kind-lt-OPPOSITE_FROM
returns-then-kind-lt-OPPOSITE_FROM c = outcome_plain _ _ _ _ _ _ _ c.plain_kind-plain.ensures _ c.plain_at-outcome.ensures c.if-kind-lt-OPPOSITE_FROM.true

pub returns-else-kind-lt-OPPOSITE_FROM : goal.returns-else-kind-lt-OPPOSITE_FROM
returns-else-kind-lt-OPPOSITE_FROM c = outcome_opposite _ _ _ _ _ _ _ c.plain_kind-plain.ensures _ c.plain_at-outcome.ensures c.if-kind-lt-OPPOSITE_FROM.false _ c.opposite.ensures
