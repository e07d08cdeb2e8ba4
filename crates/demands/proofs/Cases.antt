-- Every case of the list holds: each is computed, but for what any question gives on a catalogue without rows.
use Prim.Native.Nat.{ℕ, zero, suc, ◌+◌, ◌^◌}
use native.Mathlib.Nat.{mul-zero}
use native.Mathlib.Omega.{arith}
use mathlib.Core.Path.{◌≡◌, refl, sym, ap}
use mathlib.Core.Bool.{Bool, true, xor}
use mathlib.Core.List.{List, []}
use lib.ListN.{length}
use lib.Dec.{eqb, ltb}
use lib.Count.{ones, ones_in as digitOnes}
use Rattle.fields.specs.Decoded.{Decoded, refused, accepted}
use Rattle.fields.specs.Numbers.{number_at, bytes_of, Bytes}
use Rattle.fields.proofs.PlaceLaws.{put_same}
use Rattle.fields.proofs.Written.{number_small}
use Rattle.fields.specs.Header.{header_at}
use Rattle.catalogue.specs.Catalogue.{Catalogue}
use Rattle.slots.specs.Slots.{text_at, texts_at, zeros_at, valid_slot, valid_slots}
use Rattle.catalogue.specs.Decode.{numbers_at, counts_at, first_field_of, column_of, columns_at, decode_catalogue}
use Rattle.catalogue.specs.Mark.{mark_field_at}
use Rattle.predicate.specs.Kinds.{plain_kind, asks_content}
use Rattle.predicate.specs.Meaning.{folded, same, begins, occurs, number_test, text_test, outcome_of}
use Rattle.predicate.specs.Payload.{tags_in, kind_fits, range_fits, operand_fits, valid_payload}
use Rattle.query.specs.Query.{Query}
use Rattle.query.specs.Decode.{payload_at, is_repeated, predicate_field, group_field, member_field, decode_tagged, decode_query, member}
use Rattle.bools.specs.Bools.{both, leb_yes, ltb_yes}
use Rattle.strategy.specs.Assignment.{update, elem}
use Rattle.strategy.specs.Strategy.{predicates}
use Rattle.strategy.specs.Trace.{decides, some_outcomes, due, trace}
use Rattle.strategy.specs.Tree.{eval}
use Rattle.strategy.specs.Order.{occurrences, all_below, is_order}
use Rattle.bitmaps.specs.Sums.{sum_of, joined}
use Rattle.bitmaps.specs.Bit.{bit}
use Rattle.bitmaps.specs.Bitmap.{bytes_for, bitmap, bitmaps, ones_in}
use Rattle.task.specs.Task.{is_selected, due_at, trace_at}
use Rattle.task.specs.Input.{Input, with_query, decode_input}
use Rattle.answers.specs.Checks.{checked}
use Rattle.answers.specs.Answer.{Refused, Accepted}
use Rattle.answers.specs.Word.{packed}
use Rattle.demands.specs.Run.{lent, ran, row_count, predicate_count, task_of, selection, probe_bitmaps, tables_fit, counter_size, tally_size, counter_place, counter_at, tally_after, tally_fits, run_on, run_of}
use Rattle.demands.specs.Parish.{parish, year_blank, both as both_members, question, nested}
use Rattle.demands.specs.Demands.{IsReader}
use Rattle.demands.specs.Cases.{Holds, question_check, finds_nothing, no_rows, one_row, cases, AllHold}
use Rattle.demands.proofs.DemandRuns.{reader_test}
use Rattle.demands.proofs.CaseInputs.{parish_input, both_input, one_input, run_on_lem}

-- a catalogue without rows has empty bitmaps, whatever is asked
no_rows_lem : (f : ℕ → Bool) → bitmap f 0 ≡ []
unfolding bitmap joined
no_rows_lem f = refl

no_lines : (f : ℕ → ℕ → Bool) (n : ℕ) → bitmaps f n 0 ≡ []
unfolding bitmaps joined
no_lines f zero = refl
no_lines f (suc n) = rw (no_lines f n, no_rows_lem (f n))

its_catalogue : (C : Catalogue) (d : Decoded Query) (i : Input) → with_query C d ≡ accepted i → i.catalogue ≡ C
its_catalogue C (refused e) i h = let z : ◌≡◌ {A = ℕ} 0 1 = cc in absurd (omega arith)
its_catalogue C (accepted Q) i h = let z : record { catalogue = C; query = Q } ≡ i = cc in ap (λ (j : Input). j.catalogue) (sym z)

-- a tally to which nothing is added
same_tally : (tally : List ℕ) (reader : ℕ) → Bytes tally → length tally ≡ 128 → IsReader reader
    → (tally_fits tally reader 0 ≡ true) × (tally_after tally reader 0 ≡ tally)
same_tally tally reader bytes n l =
    let number : ℕ = counter_at tally reader in
    let z : number + 0 ≡ number = omega arith in
    let size : eqb (length tally) tally_size ≡ true = rw n in
    let sum : ltb (number + 0) (2 ^ 64) ≡ true = ltb_yes (number + 0) (2 ^ 64) (omega (arith, number_small tally bytes (counter_place reader) counter_size)) in
    (both size sum, rw z (put_same (counter_place reader) counter_size tally bytes (omega arith)))

-- a run over no rows
module _ (i : Input) (b q order : List ℕ) (reader : ℕ) (listed looks tally : List ℕ) (z : row_count i ≡ 0) where
  no_selection : selection (task_of i order) ≡ []
  unfolding selection
  no_selection = rw (z, no_rows_lem)

  no_probes : probe_bitmaps (task_of i order) ≡ []
  unfolding probe_bitmaps
  no_probes = rw (z, no_lines)

  tables_fit_lem : tables_fit (predicate_count i) (bytes_for (row_count i)) (length listed) (length looks) ≡ true
  tables_fit_lem =
      let y : bytes_for (row_count i) ≡ 0 = rw z in
      rw (y, mul-zero (predicate_count i)) (both (leb_yes 0 (length listed) (omega arith)) (leb_yes 0 (length looks) (omega arith)))

  no_rows_run : is_order (predicate_count i) order ≡ true → IsReader reader → Bytes tally → length tally ≡ 128
      → run_on i (lent b q order reader listed looks tally) ≡ ran (packed (Accepted 0 0 0)) listed looks tally
  unfolding run_on checked ones_in
  no_rows_run o l bytes n =
      let t = same_tally tally reader bytes n l in
      rw (o, tables_fit_lem, no_selection, no_probes, (reader_test reader).1 l, t.0, t.1)

finds_nothing_lem : Holds (finds_nothing no_rows)
unfolding number_at header_at numbers_at counts_at first_field_of column_of columns_at mark_field_at decode_catalogue decode_input run_of
finds_nothing_lem q order reader listed looks tally i e o l bytes n =
    let z : row_count i ≡ 0 = ap (λ (C : Catalogue). C.rows) (its_catalogue _ (decode_query _ q) i e) in
    rw e (no_rows_run i no_rows q order reader listed looks tally z o l bytes n)

nine_nested : Holds (question_check parish (nested 9 year_blank) (Refused 10))
unfolding number_at header_at text_at texts_at zeros_at valid_slot valid_slots numbers_at counts_at first_field_of column_of columns_at mark_field_at decode_catalogue plain_kind tags_in kind_fits range_fits operand_fits valid_payload payload_at is_repeated predicate_field group_field member_field decode_tagged decode_query member decode_input nested
nine_nested = refl

pub cases_hold : AllHold cases
unfolding number_at bytes_of header_at numbers_at counts_at first_field_of column_of columns_at mark_field_at decode_catalogue folded same begins
    occurs plain_kind asks_content number_test text_test outcome_of update elem predicates decides some_outcomes due trace eval occurrences all_below
    is_order sum_of joined bitmap bitmaps ones_in bit is_selected due_at trace_at selection probe_bitmaps checked run_on ones digitOnes xor
cases_hold = (
  run_on_lem parish question _ _ _ _ _ parish_input,
  (run_on_lem parish question _ _ _ _ _ parish_input, (refl, (refl, (refl, (refl, (refl, (refl, (refl, (refl, (refl, (refl, (refl, (refl, (refl, (refl, (finds_nothing_lem, (refl, (nine_nested, (run_on_lem parish both_members _ _ _ _ _ both_input, (run_on_lem one_row year_blank _ _ _ _ _ one_input, tt)))))))))))))))))))),
)
