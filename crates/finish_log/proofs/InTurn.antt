-- The probes of a row in the sequence of their turns: those that a table marks, and each of them once.
use Prim.Native.Nat.{ℕ}
use mathlib.Core.Path.{◌≡◌, refl, sym, ap, ap₂, ◌∙◌, subst}
use mathlib.Core.Bool.{Bool, true, false, ◌||◌}
use mathlib.Core.Logic.{◌⊎◌, inl, inr}
use mathlib.Core.List.{List, [], ◌∷◌}
use Rattle.bools.specs.Bools.{eqb_self, eqb_ne}
use Rattle.strategy.specs.Assignment.{Assignment, Among, elem, Once, keep_if}
use Rattle.strategy.proofs.AssignmentLaws.{among?, elem_yes, elem_no}
use Rattle.strategy.specs.Order.{occurrences, is_order}
use Rattle.strategy.proofs.OrderLaws.{occurs_none, occurs_once, order_law}
use Rattle.strategy.specs.Strategy.{Formula, State, predicates}
use Rattle.strategy.specs.Trace.{due, trace}
use Rattle.strategy.proofs.TraceLaws.{trace_among, trace_once}
use Rattle.strategy.specs.Tree.{eval}
use Rattle.bitmaps.specs.Sums.{digit}
use Rattle.bitmaps.specs.Table.{line_bit}
use Rattle.copy_log.specs.MarkedLog.{marked_at}
use Rattle.task.specs.Task.{told, due_at, made_at, is_probed}
use Rattle.task.proofs.Withdrawn.{trace_holds}
use Rattle.task.specs.Input.{Input}
use Rattle.demands.specs.Run.{predicate_count, task_of}
use Rattle.demands.specs.Log.{EachProbeOnce}

-- the predicates of an order that a table marks, where it marks those of the trace
module _ (f : Formula) (a : Assignment) (P : List ℕ) (row : ℕ) where
  marked_trace : (cs : List ℕ) → Once cs → ((c : ℕ) → Among c cs → line_bit P c row ≡ elem c (predicates (trace f a cs))) → marked_at P row cs ≡ predicates (trace f a cs)
  unfolding marked_at trace predicates elem
  marked_trace [] once marks = refl
  marked_trace (c ∷ cs) once marks = go (due f c cs a) (marks c (inl refl)) (λ d m. marks d (inr m)) (marked_trace cs once.1)
    where
      go : (b : Bool) → line_bit P c row ≡ elem c (predicates (keep_if b (c, a c) (trace f a cs)))
          → ((d : ℕ) → Among d cs → line_bit P d row ≡ elem d (predicates (keep_if b (c, a c) (trace f a cs))))
          → (((d : ℕ) → Among d cs → line_bit P d row ≡ elem d (predicates (trace f a cs))) → marked_at P row cs ≡ predicates (trace f a cs))
          → keep_if (line_bit P c row) c (marked_at P row cs) ≡ predicates (keep_if b (c, a c) (trace f a cs))
      go true here there rest =
          ap₂ (λ (b : Bool) (l : List ℕ). keep_if b c l) (here ∙ ap (λ (b : Bool). b || elem c (predicates (trace f a cs))) (eqb_self c))
          (rest (λ d m. there d m ∙ ap (λ (b : Bool). b || elem d (predicates (trace f a cs))) (eqb_ne d c (λ e. once.0 (subst (λ (x : ℕ). Among x cs) e m)))))
      go false here there rest =
          ap₂ (λ (b : Bool) (l : List ℕ). keep_if b c l) (here ∙ elem_no c (predicates (trace f a cs)) (λ m. once.0 (trace_among f a cs c m))) (rest there)

-- where a table marks none of these predicates, none of them is kept
none_marked : (P : List ℕ) (row : ℕ) (cs : List ℕ) → ((c : ℕ) → Among c cs → line_bit P c row ≡ false) → marked_at P row cs ≡ []
unfolding marked_at
none_marked P row [] h = refl
none_marked P row (c ∷ cs) h = rw (h c (inl refl)) (none_marked P row cs (λ d m. h d (inr m)))

once_occurs : (l : List ℕ) → Once l → (c : ℕ) → occurrences c l ≡ digit (elem c l)
once_occurs l once c = go (among? c l)
  where
    go : Among c l ⊎ (Among c l → ⊥) → occurrences c l ≡ digit (elem c l)
    go (inl m) = occurs_once c l once m ∙ sym (ap digit (elem_yes c l m))
    go (inr n) = occurs_none c l n ∙ sym (ap digit (elem_no c l n))

module _ (i : Input) (order : List ℕ) (ordered : is_order (predicate_count i) order ≡ true) where
  order_once : Once order
  order_once = ((order_law (predicate_count i) order).0 ordered).once

  pub made_marked : (P : List ℕ) (row : ℕ) → ((c : ℕ) → Among c order → line_bit P c row ≡ is_probed (task_of i order) c row)
      → made_at (task_of i order) row ≡ marked_at P row order
  unfolding due_at predicates elem
  made_marked P row marks =
      trace_holds (task_of i order) row (λ (s : State). ((c : ℕ) → Among c order → line_bit P c row ≡ elem c (predicates s)) → predicates s ≡ marked_at P row order)
      (λ none. sym (none_marked P row order none))
      (λ due. sym (marked_trace (eval i.query.tree) (told (task_of i order) row) P row order order_once due))
      marks

  pub made_once : EachProbeOnce (task_of i order) (made_at (task_of i order))
  unfolding due_at predicates
  made_once row l c =
      once_occurs (made_at (task_of i order) row)
      (trace_holds (task_of i order) row (λ (s : State). Once (predicates s)) tt (trace_once (eval i.query.tree) (told (task_of i order) row) order order_once)) c
