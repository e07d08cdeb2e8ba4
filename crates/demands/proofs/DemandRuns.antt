-- A run breaks nothing, or there is a first check that fails: the tests of `run_of` are the page's sentences, and decide what it leaves.
use Prim.Native.Nat.{ℕ, ◌+◌, ◌*◌, ◌^◌}
use native.Mathlib.Omega.{arith}
use mathlib.Core.Path.{◌≡◌, refl, ap, ◌∙◌}
use mathlib.Core.Bool.{Bool, true}
use mathlib.Core.Logic.{◌↔◌, ◌⊎◌}
use mathlib.Core.List.{List}
use lib.ListN.{length}
use lib.Dec.{eqb, ltb, leb}
use Rattle.bools.specs.Bools.{both, and_parts, eqb_eq, eqb_self, leb_yes, leb_le, ltb_yes, ltb_lt}
use Rattle.catalogue.specs.Sound.{IsRefusal}
use Rattle.bitmaps.specs.Bitmap.{bytes_for}
use Rattle.task.specs.Task.{is_selected}
use Rattle.task.specs.Input.{Input}
use Rattle.answers.specs.Answer.{Refused, Accepted}
use Rattle.demands.specs.Run.{Lent, row_count, predicate_count, task_of, found_count, look_count, reader_limit, counter_at, tables_fit, tally_fits, run_checks, accept, refuse, run_on, run_of}
use Rattle.demands.specs.Demands.{Gives, InBytes, after, RunningOrder, TablesFit, IsReader, TallyFits, bad_form, bad_check, run_sentences, Kept, FirstBroken}
use Rattle.demands.proofs.DemandLaws.{reads_input, broken_input, unpacked}
use Rattle.demands.proofs.SentenceLaws.{Tests, none_fails, first_fails}
use Rattle.demands.proofs.CallLaws.{call_cases, breaks_number}
use Rattle.demands.proofs.DemandTables.{count_le, order_plain, found_count_lem, look_count_le}

-- the tests of `run_of` are the page's sentences
abbrev fits : Input → (listed looks : List ℕ) → Bool
fits i listed looks = tables_fit (predicate_count i) (bytes_for (row_count i)) (length listed) (length looks)

module _ (i : Input) (listed looks : List ℕ) where
  tables_yes : TablesFit i listed looks → fits i listed looks ≡ true
  tables_yes t = both (leb_yes (bytes_for (row_count i)) (length listed) t.0) (leb_yes (predicate_count i * bytes_for (row_count i)) (length looks) t.1)

  tables_fit_lem : fits i listed looks ≡ true → TablesFit i listed looks
  tables_fit_lem h =
      let p = and_parts (leb (bytes_for (row_count i)) (length listed)) (leb (predicate_count i * bytes_for (row_count i)) (length looks)) h in
      (leb_le (bytes_for (row_count i)) (length listed) p.0, leb_le (predicate_count i * bytes_for (row_count i)) (length looks) p.1)

-- each test of a run is its sentence
pub reader_test : (reader : ℕ) → (ltb reader reader_limit ≡ true) ↔ IsReader reader
reader_test reader = (λ h. omega (arith, ltb_lt reader reader_limit h), λ h. ltb_yes reader reader_limit (omega arith))

module _ (i : Input) (order : List ℕ) (reader : ℕ) (tally : List ℕ) where
  tally_test : (tally_fits tally reader (look_count (task_of i order)) ≡ true) ↔ TallyFits i order reader tally
  tally_test = (
    λ h. let p = and_parts (eqb (length tally) 128) (ltb (counter_at tally reader + look_count (task_of i order)) (2 ^ 64)) h in
        (eqb_eq (length tally) 128 p.0, ltb_lt (counter_at tally reader + look_count (task_of i order)) (2 ^ 64) p.1),
    λ t. both (ap (λ (k : ℕ). eqb k 128) t.0 ∙ eqb_self 128) (ltb_yes (counter_at tally reader + look_count (task_of i order)) (2 ^ 64) t.1),
  )

module _ (l : Lent) where
  run_tests : (i : Input) → Tests (run_checks i l) (run_sentences l i)
  run_tests i = (
    (refl, order_plain (predicate_count i) l.request.order),
    (
      (refl, (tables_fit_lem i l.listed l.looks, tables_yes i l.listed l.looks)),
      ((refl, reader_test l.reader), ((refl, tally_test i l.request.order l.reader l.tally), tt)),
    ),
  )

  -- the sentences that hold, by name
  pub kept_order : (i : Input) → Kept l i → RunningOrder i l.request.order
  kept_order i k = k.checks.0

  pub kept_reader : (i : Input) → Kept l i → IsReader l.reader
  kept_reader i k = k.checks.1.1.0

  pub kept_tally : (i : Input) → Kept l i → TallyFits i l.request.order l.reader l.tally
  kept_tally i k = k.checks.1.1.1.0

  pub kept_run : (i : Input) → Kept l i → after l ≡ accept (task_of i l.request.order) l
  unfolding run_of run_on
  kept_run i k =
      rw (reads_input l.request.catalogue l.request.question i k.forms)
      (none_fails _ _ (run_checks i l) (run_sentences l i) (run_tests i) k.checks)

  pub broken_run : (e : ℕ) → FirstBroken l e → after l ≡ refuse e l.listed l.looks l.tally
  unfolding run_of run_on
  broken_run e (bad_form x) = rw (broken_input l.request.catalogue l.request.question e x)
  broken_run e (bad_check i f x) =
      rw (reads_input l.request.catalogue l.request.question i f)
      (first_fails _ _ (run_checks i l) (run_sentences l i) (run_tests i) e x)

  pub broken_number : (e : ℕ) → FirstBroken l e → IsRefusal e
  broken_number e x =
      breaks_number l.request.catalogue l.request.question (run_sentences l) (λ i. (omega arith, (omega arith, (omega arith, (omega arith, tt))))) e x

  -- nothing is broken, or there is a first check that fails
  abbrev pub Cases : Type 0
  Cases = ((i : Input) × Kept l i) ⊎ ((e : ℕ) × FirstBroken l e)

  pub run_cases : InBytes l.request → Cases
  run_cases bytes =
      call_cases l.request.catalogue l.request.question (run_sentences l) (λ i. run_checks i l) run_tests bytes.0 bytes.1

  pub broken_gives : (e : ℕ) → FirstBroken l e → Gives (after l).word e 0 0 0
  broken_gives e x = rw (broken_run e x) (let r = broken_number e x in unpacked (Refused e) (omega arith))

  pub kept_gives : (i : Input) → Kept l i → Gives (after l).word 0 (found_count (task_of i l.request.order)) 0 (look_count (task_of i l.request.order))
  kept_gives i k =
      let C = k.forms.0.0 in
      let Q = k.forms.1.0 in
      rw (kept_run i k) (unpacked (Accepted (found_count (task_of i l.request.order)) 0 (look_count (task_of i l.request.order)))
      (omega (arith, found_count_lem i l.request.order, count_le (is_selected (task_of i l.request.order)) (row_count i), look_count_le i l.request.order 2048 C.rows_few, C.rows_few, Q.few)))
