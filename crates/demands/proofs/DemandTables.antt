-- The tables of an accepted run: the row rule in a lent table, looks as the plain sentence, and the counts as sums over rows.
use Prim.Native.Nat.{ℕ, zero, suc, ◌+◌, ◌*◌, ◌≤◌, ◌<◌}
use native.Mathlib.Nat.{mul-le-mul_right}
use native.Mathlib.Omega.{arith}
use mathlib.Core.Path.{◌≡◌, refl, sym, ap, ◌∙◌, subst}
use mathlib.Core.Bool.{Bool, true, false, not, ◌&&◌, ◌||◌, cond}
use mathlib.Core.Logic.{◌↔◌, ◌⊎◌, inl, inr}
use mathlib.Core.List.{List, [], ◌∷◌, ◌++◌}
use lib.ListN.{length, take, drop}
use lib.Seq.{take-append_seam, drop-append_seam}
use lib.Dec.{eqb}
use Rattle.bools.specs.Bools.{both, not_of_true, and_parts, eqb_eq, eqb_self, eqb_ne, same?, ltb_yes, ltb_no}
use Rattle.strategy.specs.Assignment.{Assignment, Among, elem, Once}
use Rattle.strategy.proofs.AssignmentLaws.{elem_yes, elem_among, elem_no}
use Rattle.strategy.specs.Order.{occurrences, all_below, is_order, Order}
use Rattle.strategy.proofs.OrderLaws.{all_below_gives, all_below_of, order_law}
use Rattle.strategy.specs.Strategy.{State, Due, predicates}
use Rattle.strategy.specs.Trace.{trace}
use Rattle.strategy.proofs.TraceLaws.{trace_among, trace_once, trace_due}
use Rattle.bitmaps.specs.Sums.{sum_of, digit, count_of}
use Rattle.bitmaps.proofs.SumLaws.{sum_same, sum_added, sum_zero, count_same}
use Rattle.fields.specs.Output.{put_front}
use Rattle.fields.proofs.OutputLaws.{part_of_front}
use Rattle.bitmaps.specs.Bitmap.{bytes_for, bitmap}
use Rattle.bitmaps.specs.Bit.{bit}
use Rattle.bitmaps.proofs.BitmapLaws.{bitmap_length, bitmap_bytes, bitmap_bit, bitmap_ones, bitmaps_length, bitmaps_line, bitmaps_ones}
use Rattle.catalogue.specs.Catalogue.{is_withdrawn}
use Rattle.task.specs.Task.{is_selected, due_at, trace_at, is_probed}
use Rattle.task.proofs.Withdrawn.{probed_is}
use Rattle.task.specs.Input.{Input}
use Rattle.demands.specs.Run.{row_count, predicate_count, task_of, selection, probe_bitmaps, found_count, look_count}
use Rattle.demands.specs.Demands.{RunningOrder, Present, if_present, pattern, tree_value, LookDue, LookMade, LineOf, listed_line, looks_line}

-- SUMS

pub sum_le : (g h : ℕ → ℕ) (n : ℕ) → ((k : ℕ) → k < n → g k ≤ h k) → sum_of g n ≤ sum_of h n
unfolding sum_of
sum_le g h zero l = omega arith
sum_le g h (suc n) l = omega (arith, sum_le g h n (λ k j. l k (omega arith)), l n (omega arith))

pub sum_most : (g : ℕ → ℕ) (m n : ℕ) → ((k : ℕ) → g k ≤ m) → sum_of g n ≤ n * m
unfolding sum_of
sum_most g m zero l = omega arith
sum_most g m (suc n) l = omega (arith, sum_most g m n l, l n)

pub digit_le : (b : Bool) → digit b ≤ 1
digit_le true = omega arith
digit_le false = omega arith

pub count_le : (f : ℕ → Bool) (n : ℕ) → count_of f n ≤ n
unfolding sum_of
count_le f zero = omega arith
count_le f (suc n) = omega (arith, count_le f n, digit_le (f n))

-- over predicates and rows, or over rows and predicates
pub sum_swap : (g : ℕ → ℕ → ℕ) (n m : ℕ) → sum_of (λ c. sum_of (g c) m) n ≡ sum_of (λ e. sum_of (λ c. g c e) n) m
unfolding sum_of
sum_swap g zero m = sym (sum_zero (λ e. 0) m (λ e l. refl))
sum_swap g (suc n) m = ap (λ (x : ℕ). x + sum_of (g n) m) (sum_swap g n m) ∙ sum_added (λ e. sum_of (λ c. g c e) n) (g n) m

-- one number more
count_more : (g : ℕ → Bool) (d n : ℕ) → d < n → g d ≡ false → count_of (λ c. eqb c d || g c) n ≡ suc (count_of g n)
unfolding sum_of
count_more g d zero l z = absurd (omega arith)
count_more g d (suc n) l z =
    let go : (n ≡ d) ⊎ (n ≡ d → ⊥) → count_of (λ c. eqb c d || g c) (suc n) ≡ suc (count_of g (suc n)) = elim [
      | inl e ↦ here e
      | inr ne ↦ there ne (count_more g d n (omega arith) z)
    ] in
    go (same? n d)
  where
    here : n ≡ d → count_of (λ c. eqb c d || g c) (suc n) ≡ suc (count_of g (suc n))
    here e =
        let same : count_of (λ c. eqb c d || g c) n ≡ count_of g n =
        count_same (λ c. eqb c d || g c) g n (λ c k. ap (λ (b : Bool). b || g c) (eqb_ne c d (λ x. omega arith))) in
        let x : digit (eqb n d || g n) ≡ 1 = rw (e, eqb_self d) in
        let y : digit (g n) ≡ 0 = rw (e, z) in
        omega arith

    there : (n ≡ d → ⊥) → count_of (λ c. eqb c d || g c) n ≡ suc (count_of g n) → count_of (λ c. eqb c d || g c) (suc n) ≡ suc (count_of g (suc n))
    there ne ih =
        let x : digit (eqb n d || g n) ≡ digit (g n) = rw (eqb_ne n d ne) in
        omega arith

pub count_elem : (l : List ℕ) (n : ℕ) → Once l → ((d : ℕ) → Among d l → d < n) → count_of (λ c. elem c l) n ≡ length l
unfolding elem
count_elem [] n o b = sum_zero (λ c. 0) n (λ c l. refl)
count_elem (d ∷ ds) n o b = count_more (λ c. elem c ds) d n (b d (inl refl)) (elem_no d ds o.0) ∙ ap suc (count_elem ds n o.1 (λ c m. b c (inr m)))

-- LINES

pub line_of : (P : ℕ → Type 0) (f : ℕ → Bool) (rows : ℕ) → ((e : ℕ) → (f e ≡ true) ↔ P e) → LineOf P rows (bitmap f rows)
line_of P f rows h = record {
  size = bitmap_length f rows;
  bytes = bitmap_bytes f rows;
  bits = λ e l. let q : bit (bitmap f rows) e ≡ f e = inside e l in (λ x. (h e).0 (sym q ∙ x), λ p. q ∙ (h e).1 p);
  unused = λ e l. bitmap_bit f rows e ∙ ap (λ (b : Bool). b && f e) (ltb_no e rows l);
}
  where
    inside : (e : ℕ) → e < rows → bit (bitmap f rows) e ≡ f e
    inside e l = bitmap_bit f rows e ∙ ap (λ (b : Bool). b && f e) (ltb_yes e rows l)

pub line_count : (f : ℕ → Bool) (rows : ℕ) → count_of (bit (bitmap f rows)) rows ≡ count_of f rows
line_count f rows = count_same (bit (bitmap f rows)) f rows (λ e l. bitmap_bit f rows e ∙ ap (λ (b : Bool). b && f e) (ltb_yes e rows l))

-- bytes put at the front of a table
module _ (new old : List ℕ) (s : ℕ) (e : length new ≡ s) where
  pub front_new : take s (put_front new old) ≡ new
  front_new = ap (λ (k : ℕ). take k (put_front new old)) (sym e) ∙ take-append_seam new (drop (length new) old)

  pub front_old : drop s (put_front new old) ≡ drop s old
  front_old = ap (λ (k : ℕ). drop k (put_front new old)) (sym e) ∙ drop-append_seam new (drop (length new) old) ∙ ap (λ (k : ℕ). drop k old) e

pub front_line : (new old : List ℕ) (s n c : ℕ) → length new ≡ n * s → c < n → take s (drop (c * s) (put_front new old)) ≡ take s (drop (c * s) new)
front_line new old s n c e l = part_of_front new (drop (length new) old) (c * s) s (omega (arith, mul-le-mul_right s l))

-- ORDERS AND LOOKS

pub order_plain : (n : ℕ) (order : List ℕ) → (is_order n order ≡ true) ↔ ((length order ≡ n) × ((c : ℕ) → c < n → occurrences c order ≡ 1))
unfolding is_order
order_plain n order = (
  λ h. let p = and_parts (eqb (length order) n) (all_below n (λ c. eqb (occurrences c order) 1)) h in
      (eqb_eq (length order) n p.0, λ c l. eqb_eq (occurrences c order) 1 (all_below_gives n (λ c. eqb (occurrences c order) 1) p.1 c l)),
  λ p. both (ap (λ (k : ℕ). eqb k n) p.0 ∙ eqb_self n) (all_below_of n (λ c. eqb (occurrences c order) 1) (λ c l. rw (p.1 c l))),
)

-- a number of a list stands between those before it and those after it
split : (c : ℕ) (l : List ℕ) → Among c l → (earlier : List ℕ) × (later : List ℕ) × (l ≡ earlier ++ (c ∷ later))
split c [] m = absurd m
split c (d ∷ ds) (inl e) = ([], ds, rw e)
split c (d ∷ ds) (inr m) = let s = split c ds m in (d ∷ s.0, s.1, ap (λ (l : List ℕ). d ∷ l) s.2)

module _ (i : Input) (order : List ℕ) (o : RunningOrder i order) where
  pub held : Order (predicate_count i) order
  held = (order_law (predicate_count i) order).0 ((order_plain (predicate_count i) order).1 o)

  -- the trace holds what is due, as the plain sentence says
  pub traced_due : (a : Assignment) (c : ℕ) → Among c (predicates (trace (tree_value i) a order)) ↔ LookDue i order a c
  traced_due a c = (to, from)
    where
      at : (earlier later : List ℕ) → order ≡ earlier ++ (c ∷ later) → Among c (predicates (trace (tree_value i) a order)) ↔ Due (tree_value i) c later a
      at earlier later e =
          let law = trace_due (tree_value i) a earlier c later (subst Once e held.once) in (
            λ m. law.0 (subst (λ (l : List ℕ). Among c (predicates (trace (tree_value i) a l))) e m),
            λ D. subst (λ (l : List ℕ). Among c (predicates (trace (tree_value i) a l))) (sym e) (law.1 D),
          )

      to : Among c (predicates (trace (tree_value i) a order)) → LookDue i order a c
      to m =
          let s = split c order (trace_among (tree_value i) a order c m) in
          (s.0, s.1, s.2, (at s.0 s.1 s.2).0 m)

      from : LookDue i order a c → Among c (predicates (trace (tree_value i) a order))
      from D = (at D.0 D.1 D.2).1 D.3

  traced_inside : (a : Assignment) (c : ℕ) → Among c (predicates (trace (tree_value i) a order)) → c < predicate_count i
  traced_inside a c m = held.inside c (trace_among (tree_value i) a order c m)

  -- a look that is made is due, at an entry in the house
  probed_traced : (c e : ℕ) → is_probed (task_of i order) c e ≡ true → Present i e × Among c (predicates (trace (tree_value i) (pattern i e) order))
  unfolding due_at
  probed_traced c e x =
      let p = and_parts (not (is_withdrawn i.catalogue e)) (elem c (predicates (due_at (task_of i order) e))) (sym (probed_is (task_of i order) e c) ∙ x) in
      (not_of_true (is_withdrawn i.catalogue e) p.0, elem_among c (predicates (due_at (task_of i order) e)) p.1)

  pub probed_inside : (c e : ℕ) → is_probed (task_of i order) c e ≡ true → c < predicate_count i
  probed_inside c e x = traced_inside (pattern i e) c (probed_traced c e x).1

  pub probed_made : (c e : ℕ) → (is_probed (task_of i order) c e ≡ true) ↔ LookMade i order e c
  unfolding due_at
  probed_made c e = (
    λ x. let p = probed_traced c e x in (p.0, (traced_due (pattern i e) c).0 p.1),
    λ (h, D). rw (probed_is (task_of i order) e c, h) (elem_yes c (predicates (due_at (task_of i order) e)) ((traced_due (pattern i e) c).1 D)),
  )

  -- how many looks a row has
  pub probed_count : (e : ℕ) → count_of (λ c. is_probed (task_of i order) c e) (predicate_count i) ≡ if_present i e (length (predicates (trace (tree_value i) (pattern i e) order)))
  unfolding trace_at due_at predicates elem
  probed_count e = go (is_withdrawn i.catalogue e)
    where
      all : State
      all = trace (tree_value i) (pattern i e) order

      go : (w : Bool) → count_of (λ c. elem c (predicates (cond w [] all))) (predicate_count i) ≡ cond w 0 (length (predicates all))
      go true = sum_zero (λ c. 0) (predicate_count i) (λ c l. refl)
      go false = count_elem (predicates all) (predicate_count i) (trace_once (tree_value i) (pattern i e) order held.once) (traced_inside (pattern i e))

-- COUNTS

module _ (i : Input) (order : List ℕ) where
  pub found_count_lem : found_count (task_of i order) ≡ count_of (is_selected (task_of i order)) (row_count i)
  unfolding selection
  found_count_lem = bitmap_ones (is_selected (task_of i order)) (row_count i)

  pub look_count_lem : look_count (task_of i order) ≡ sum_of (λ c. count_of (is_probed (task_of i order) c) (row_count i)) (predicate_count i)
  unfolding probe_bitmaps
  look_count_lem = bitmaps_ones (is_probed (task_of i order)) (predicate_count i) (row_count i)

  pub look_count_le : (m : ℕ) → row_count i ≤ m → look_count (task_of i order) ≤ predicate_count i * m
  look_count_le m h =
      subst (λ (x : ℕ). x ≤ predicate_count i * m) (sym look_count_lem)
      (sum_most (λ c. count_of (is_probed (task_of i order) c) (row_count i)) m (predicate_count i)
      (λ c. omega (arith, count_le (is_probed (task_of i order) c) (row_count i))))

  -- the same row by row
  pub look_count_across : look_count (task_of i order) ≡ sum_of (λ e. count_of (λ c. is_probed (task_of i order) c e) (predicate_count i)) (row_count i)
  look_count_across = look_count_lem ∙ sum_swap (λ c e. digit (is_probed (task_of i order) c e)) (predicate_count i) (row_count i)

  pub look_count_rows : RunningOrder i order → look_count (task_of i order) ≡ sum_of (λ e. if_present i e (length (predicates (trace (tree_value i) (pattern i e) order)))) (row_count i)
  look_count_rows o =
      look_count_across
      ∙ sum_same (λ e. count_of (λ c. is_probed (task_of i order) c e) (predicate_count i)) (λ e. if_present i e (length (predicates (trace (tree_value i) (pattern i e) order)))) (row_count i)
      (λ e l. probed_count i order o e)

-- THE LENT TABLES AFTERWARDS

module _ (i : Input) (order : List ℕ) where
  pub selection_length : length (selection (task_of i order)) ≡ bytes_for (row_count i)
  unfolding selection
  selection_length = bitmap_length _ (row_count i)

  pub listed_line_lem : (listed : List ℕ) → listed_line i (put_front (selection (task_of i order)) listed) ≡ bitmap (is_selected (task_of i order)) (row_count i)
  unfolding selection
  listed_line_lem listed = front_new (selection (task_of i order)) listed (bytes_for (row_count i)) selection_length

  pub probe_bitmaps_length : length (probe_bitmaps (task_of i order)) ≡ predicate_count i * bytes_for (row_count i)
  unfolding probe_bitmaps
  probe_bitmaps_length = bitmaps_length _ (predicate_count i) (row_count i)

  pub looks_line_lem : (looks : List ℕ) (c : ℕ) → c < predicate_count i
      → looks_line i (put_front (probe_bitmaps (task_of i order)) looks) c ≡ bitmap (is_probed (task_of i order) c) (row_count i)
  unfolding probe_bitmaps
  looks_line_lem looks c l =
      front_line (probe_bitmaps (task_of i order)) looks (bytes_for (row_count i)) (predicate_count i) c probe_bitmaps_length l
      ∙ bitmaps_line (is_probed (task_of i order)) (predicate_count i) (row_count i) c l
