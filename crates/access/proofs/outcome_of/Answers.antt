-- `outcome_of` meets its contract: what it hands on is what the access of the predicate shows.
use Rattle.access.proofs.Outcomes.{has_range, has_row}
use Rattle.access.proofs.outcome_of.Goals as goal

pub invariant_of-cell : goal.invariant_of-cell
invariant_of-cell c = record { there = ∣ has_row _ _ _ _ c.requires ∣₁ }

pub outcome_at-requires : goal.outcome_at-requires
outcome_at-requires c = has_range _ _ _ _ c.operand.ensures c.requires
