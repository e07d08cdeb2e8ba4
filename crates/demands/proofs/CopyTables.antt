-- The fields of a copy: as many as there are looks, whatever the sequence in which those of an entry follow each other.
use Prim.Native.Nat.{ℕ, ◌*◌, ◌<◌}
use native.Mathlib.Omega.{arith}
use mathlib.Core.Path.{◌≡◌, sym, ap, ◌∙◌}
use mathlib.Core.Bool.{Bool, true, false}
use mathlib.Core.Logic.{◌⊎◌, inl, inr}
use mathlib.Core.List.{List}
use lib.ListN.{length}
use Rattle.strategy.specs.Assignment.{Among, elem, Once}
use Rattle.strategy.proofs.AssignmentLaws.{among?, elem_yes, elem_no}
use Rattle.strategy.specs.Order.{occurrences}
use Rattle.strategy.proofs.OrderLaws.{occurs_none, occurs_some, once_of}
use Rattle.bitmaps.specs.Sums.{sum_of, digit, count_of}
use Rattle.bitmaps.proofs.SumLaws.{sum_same, count_same}
use Rattle.task.specs.Log.{probe_field_size}
use Rattle.task.proofs.LogLength.{log_length}
use Rattle.task.specs.Task.{is_probed}
use Rattle.task.specs.Input.{Input}
use Rattle.demands.specs.Run.{row_count, predicate_count, task_of, look_count}
use Rattle.demands.specs.Demands.{RunningOrder}
use Rattle.demands.specs.Log.{outcome_number_at, task_fields, EachProbeOnce, log_size}
use Rattle.demands.proofs.DemandTables.{digit_le, count_elem, probed_inside, look_count_across}

module _ (i : Input) (order : List ℕ) (o : RunningOrder i order) (s : (entry : ℕ) → List ℕ) (each : EachProbeOnce (task_of i order) s) where
  -- an entry's sequence has each predicate that is probed there, once, and no other
  module _ (e : ℕ) (m : e < row_count i) where
    pub sequence_once : Once (s e)
    sequence_once = once_of (s e) (λ c n. omega (arith, each e m c, digit_le (is_probed (task_of i order) c e)))

    pub sequence_has : (c : ℕ) → elem c (s e) ≡ is_probed (task_of i order) c e
    sequence_has c = go (among? c (s e)) (is_probed (task_of i order) c e) (each e m c)
      where
        go : Among c (s e) ⊎ (Among c (s e) → ⊥) → (b : Bool) → occurrences c (s e) ≡ digit b → elem c (s e) ≡ b
        go (inl n) true h = elem_yes c (s e) n
        go (inl n) false h = absurd (omega (arith, occurs_some c (s e) n))
        go (inr n) true h = absurd (omega (arith, occurs_none c (s e) n))
        go (inr n) false h = elem_no c (s e) n

    entry_length : length (s e) ≡ count_of (λ c. is_probed (task_of i order) c e) (predicate_count i)
    entry_length =
        sym (count_elem (s e) (predicate_count i) sequence_once (λ c n. probed_inside i order o c e (sym (sequence_has c) ∙ elem_yes c (s e) n)))
        ∙ count_same (λ c. elem c (s e)) (λ c. is_probed (task_of i order) c e) (predicate_count i) (λ c l. sequence_has c)

  pub sequence_count : sum_of (λ e. length (s e)) (row_count i) ≡ look_count (task_of i order)
  sequence_count =
      sum_same (λ e. length (s e)) (λ e. count_of (λ c. is_probed (task_of i order) c e) (predicate_count i)) (row_count i) entry_length ∙ sym (look_count_across i order)

  pub sequence_length : length (task_fields (task_of i order) s) ≡ log_size (task_of i order)
  sequence_length = log_length (outcome_number_at (task_of i order)) s (row_count i) ∙ ap (λ (k : ℕ). probe_field_size * k) sequence_count
