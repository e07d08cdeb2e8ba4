-- What the code hands on of an access is what the access shows.
use Prim.Native.Nat.{ℕ}
use mathlib.Core.Path.{◌≡◌}
use mathlib.Core.List.{List}
use Rattle.catalogue.specs.InPlace.{HasRow}
use Rattle.predicate.specs.Kinds.{plain_kind}
use Rattle.predicate.specs.Meaning.{column_asked}
use Rattle.predicate.specs.Outcome.{HasRange}
use Rattle.predicate.proofs.PayloadLaws.{range_size_lem}
use Rattle.plan.specs.declared.table.Access.{Access}
use Rattle.access.specs.Access.{operand_in, HasOutcome}

-- the outcome at a row: the code hands on the bytes that it takes for the operand
module _ (b q : List ℕ) (x : Access) (row : ℕ) where
  pub has_row : HasOutcome b q x row → HasRow b x.tag x.start row
  has_row h = (h.0.rows, column_asked h.0 h.1, h.2.shown, h.3)

  pub has_range : {o : List ℕ} → o ≡ operand_in q x → HasOutcome b q x row → HasRange (plain_kind x.kind) o
  has_range e h = rw e (range_size_lem _ _ h.2.operand_fits_lem)
