-- A withdrawn row is neither selected nor looked at; any other is selected as the tree says, and the looks there are those due.
use Prim.Native.Nat.{ℕ}
use mathlib.Core.Path.{◌≡◌, refl, ap}
use mathlib.Core.Bool.{Bool, true, false, not, ◌&&◌, cond}
use mathlib.Core.Logic.{◌↔◌}
use mathlib.Core.List.{[]}
use Rattle.bools.specs.Bools.{and_parts, not_of_true, both}
use Rattle.strategy.specs.Assignment.{elem}
use Rattle.strategy.specs.Strategy.{State, predicates}
use Rattle.strategy.specs.Tree.{eval}
use Rattle.catalogue.specs.Catalogue.{is_withdrawn}
use Rattle.task.specs.Task.{Task, told, is_selected, due_at, trace_at, is_probed}

module _ (T : Task) (row : ℕ) where
  pub selected_is : (is_selected T row ≡ true) ↔ ((is_withdrawn T.catalogue row ≡ false) × (eval T.query.tree (told T row) ≡ true))
  unfolding is_selected
  selected_is = (
    λ x. let p = and_parts (not (is_withdrawn T.catalogue row)) (eval T.query.tree (told T row)) x in (not_of_true (is_withdrawn T.catalogue row) p.0, p.1),
    λ (h, t). both (ap not h) t,
  )

  pub probed_is : (c : ℕ) → is_probed T c row ≡ (not (is_withdrawn T.catalogue row) && elem c (predicates (due_at T row)))
  unfolding trace_at predicates elem
  probed_is c = go (is_withdrawn T.catalogue row)
    where
      go : (w : Bool) → elem c (predicates (cond w [] (due_at T row))) ≡ (not w && elem c (predicates (due_at T row)))
      go true = refl
      go false = refl

  -- what holds where there is no look and of those due holds of the looks made
  pub trace_holds : (P : State → Type 0) → P [] → P (due_at T row) → P (trace_at T row)
  unfolding trace_at
  trace_holds P none due = go (is_withdrawn T.catalogue row)
    where
      go : (w : Bool) → P (cond w [] (due_at T row))
      go true = none
      go false = due
