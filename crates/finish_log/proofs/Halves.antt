-- The table of marks as two tables of lines, for the probes and for those with a yes, and the log that is written from them.
use Prim.Native.Nat.{ℕ, ◌*◌, ◌≤◌, ◌<◌}
use native.Mathlib.Omega.{arith}
use mathlib.Core.Path.{◌≡◌, refl, sym, ap, ap₂, ◌∙◌}
use mathlib.Core.Bool.{Bool, true, false, ◌&&◌}
use mathlib.Core.List.{List}
use lib.ListN.{length, take, drop, get_or, length-drop}
use lib.Dec.{ltb}
use lib.Seq.{length-take-le}
use Rattle.bools.specs.Bools.{and_left, and_right, ltb_yes, ltb_lt}
use Rattle.predicate.specs.declared.outcome.Outcome.{Outcome}
use Rattle.predicate.specs.declared.outcome.Outcome.TheVariants.{No, Yes, Blank}
use Rattle.predicate.specs.Meaning.{truth}
use Rattle.predicate.specs.Outcome.{is_blank}
use Rattle.strategy.specs.Assignment.{Among}
use Rattle.strategy.proofs.AssignmentLaws.{among_at}
use Rattle.strategy.specs.Order.{is_order, Order}
use Rattle.strategy.proofs.OrderLaws.{order_law}
use Rattle.bitmaps.specs.Bitmap.{bytes_for, ones_in}
use Rattle.bitmaps.specs.Table.{line_size, line_bits, line_bit, lines_of, HoldsBits}
use Rattle.bitmaps.proofs.TableLaws.{lines_front, lines_behind}
use Rattle.query.specs.Format.{predicate_limit}
use Rattle.gather.specs.Turns.{HasLines}
use Rattle.task.specs.Log.{log_fields}
use Rattle.copy_log.specs.MarkedLog.{marked_number}
use Rattle.copy_log.proofs.LogLaws.{marked_log_lem}
use Rattle.task.specs.Task.{told, made_at, is_probed}
use Rattle.marks.specs.Marks.{met_line}
use Rattle.rows.specs.Worked.{is_met, marking}
use Rattle.rows.proofs.MarkLines.{probe_line, met_line_lem}
use Rattle.plan.specs.declared.table.Access.{Access}
use Rattle.blanks.specs.Blanks.{outcome_on, ProbesOf, blank_turn}
use Rattle.log_rows.specs.Written.{task_log}
use Rattle.task.specs.Input.{Input}
use Rattle.answers.specs.Answers.{outcome_number}
use Rattle.demands.specs.Run.{predicate_count, task_of, probe_bitmaps, look_count}
use Rattle.demands.specs.Log.{outcome_number_at, task_fields, log_size}
use Rattle.demands.proofs.DemandTables.{order_plain}
use Rattle.demands.proofs.CopyTables.{sequence_length}
use Rattle.finish_log.specs.Finish.{MarksOf}
use Rattle.finish_log.proofs.InTurn.{made_marked, made_once}

-- the bytes of the lines for the probes
abbrev pub half : ℕ
half = predicate_limit * line_size

pub first_length : (marks : List ℕ) → half ≤ length marks → half ≡ length (take half marks)
first_length marks h = sym (length-take-le half marks h)

module _ {i : Input} {b q : List ℕ} {plan : List Access} {order marks : List ℕ} {n rows : ℕ} (M : MarksOf i b q plan order marks n rows) where
  held : Order n order
  held = (order_law n order).0 M.ordered

  order_length : length order ≡ n
  order_length = ((order_plain n order).0 M.ordered).0

  turn_few : (j : ℕ) → j < length order → get_or order j 0 < n
  turn_few j l = held.inside (get_or order j 0) (among_at order j l)

  -- a half has a line for each turn
  turn_lines : (table : List ℕ) → length table ≡ half → HasLines order table
  turn_lines table s = record {
    few = let f = M.few in let l = order_length in omega arith;
    inside = λ j l.
        (let f = M.few in
        let c = turn_few j l in
        omega arith);
  }

  half_lines : HasLines order (take half marks) × HasLines order (drop half marks)
  half_lines =
      let s = M.size in
      (turn_lines (take half marks) (sym (first_length marks (omega arith))), turn_lines (drop half marks) (omega (arith, length-drop half marks)))

  bits : HoldsBits (marking (task_of i order) n) (2 * predicate_limit) marks
  bits = M.worked.marked (2 * predicate_limit) M.size

  module _ (c e : ℕ) (m : Among c order) (l : e < rows) where
    few : c < n
    few = held.inside c m

    probed_bit : line_bit (take half marks) c e ≡ is_probed (task_of i order) c e
    probed_bit =
        let f = M.few in
        let d = few in
        let s = M.short in
        let r = M.rows_are in
        lines_front marks predicate_limit c e (omega arith) (omega arith)
        ∙ bits.bits c e (omega arith) (omega arith) ∙ probe_line (task_of i order) n c e (omega arith)
        ∙ rw (ltb_yes c n few, ltb_yes e i.catalogue.rows (omega arith))

    met_bit : line_bit (drop half marks) c e ≡ is_met (task_of i order) c e
    met_bit =
        let f = M.few in
        let d = few in
        let s = M.short in
        let r = M.rows_are in
        lines_behind marks predicate_limit c e
        ∙ bits.bits (met_line c) e (omega arith) (omega arith) ∙ met_line_lem (task_of i order) n c e
        ∙ rw (ltb_yes c n few, ltb_yes e i.catalogue.rows (omega arith))

    -- the outcome of a probe from its marks
    outcome_bits : line_bit (take half marks) c e ≡ true
        → outcome_number_at (task_of i order) e c ≡ marked_number (line_bit (drop half marks) c e) (line_bit (take half marks) c e && is_blank (outcome_on (task_of i order) e c))
    outcome_bits y =
        number (outcome_on (task_of i order) e c)
        ∙ ap₂ marked_number (sym (met_bit ∙ ap (λ (b : Bool). b && told (task_of i order) e c) (sym probed_bit ∙ y)))
        (sym (ap (λ (b : Bool). b && is_blank (outcome_on (task_of i order) e c)) y))
      where
        number : (o : Outcome) → outcome_number o ≡ marked_number (truth o) (is_blank o)
        number No = refl
        number Yes = refl
        number Blank = refl

  -- a row that is marked as probed is one of the catalogue's
  probed_inside : (c e : ℕ) → c < n → e < line_bits → line_bit (take half marks) c e ≡ true → e < i.catalogue.rows
  probed_inside c e l k y =
      let f = M.few in
      let z = sym (lines_front marks predicate_limit c e (omega arith) k ∙ bits.bits c e (omega arith) k ∙ probe_line (task_of i order) n c e (omega arith)) ∙ y in
      ltb_lt e i.catalogue.rows (and_left (ltb e i.catalogue.rows) (is_probed (task_of i order) c e) (and_right (ltb c n) _ z))

  -- and a yes is no blank
  met_told : (c e : ℕ) → Among c order → e < i.catalogue.rows → line_bit (drop half marks) c e ≡ true → is_blank (outcome_on (task_of i order) e c) ≡ false
  met_told c e m l y =
      let r = M.rows_are in
      yes_told (outcome_on (task_of i order) e c) (and_right (is_probed (task_of i order) c e) (told (task_of i order) e c) (sym (met_bit c e m (omega arith)) ∙ y))
    where
      yes_told : (o : Outcome) → truth o ≡ true → is_blank o ≡ false
      yes_told No z = refl
      yes_told Yes z = refl
      yes_told Blank z = sym z

  pub probes_of : ProbesOf (task_of i order) b q plan order (take half marks) (drop half marks)
  probes_of = record {
    lines = half_lines.0;
    met_lines = half_lines.1;
    low = λ j l. (let f = M.few in let c = turn_few j l in omega arith);
    accessed = λ j l. M.accessed (get_or order j 0) (turn_few j l);
    inside = λ j e l. probed_inside (get_or order j 0) e (turn_few j l);
    yes = λ j e l. met_told (get_or order j 0) e (among_at order j l);
  }

  all_ordered : is_order (predicate_count i) order ≡ true
  all_ordered = rw M.count M.ordered

  -- what is written are the fields in turn
  pub marked_fields : task_log (task_of i order) order (take half marks) (drop half marks) rows ≡ task_fields (task_of i order) (made_at (task_of i order))
  marked_fields =
      marked_log_lem order (take half marks) (drop half marks) (blank_turn (task_of i order) order (take half marks)) rows (outcome_number_at (task_of i order)) (made_at (task_of i order))
      (λ e l. made_marked i order all_ordered (take half marks) e (λ c m. probed_bit c e m l))
      (λ e j l k. outcome_bits (get_or order j 0) e (among_at order j k) l)
      ∙ ap (log_fields (outcome_number_at (task_of i order)) (made_at (task_of i order))) (sym M.rows_are)

  pub fields_length : length (task_fields (task_of i order) (made_at (task_of i order))) ≡ log_size (task_of i order)
  fields_length = sequence_length i order ((order_plain (predicate_count i) order).0 all_ordered) (made_at (task_of i order)) (made_once i order all_ordered)

  pub looks_counted : ones_in (lines_of (bytes_for rows) marks n) ≡ look_count (task_of i order)
  unfolding probe_bitmaps
  looks_counted = rw (← M.rows_are) (ap ones_in M.worked.probed_bitmaps ∙ rw M.count)
