-- The demands page, proved: one proof for each of its statements, in its order.
use Prim.Native.Nat.{ℕ, suc, ◌+◌, ◌*◌, ◌/◌, ◌%◌, ◌^◌, ◌≤◌, ◌<◌}
use native.Mathlib.Nat.{mul_comm}
use native.Mathlib.Omega.{arith}
use mathlib.Core.Path.{◌≡◌, refl, sym, ap, ◌∙◌, subst}
use mathlib.Core.Bool.{Bool, true, false, ◌&&◌, cond}
use mathlib.Core.Logic.{◌⊎◌, inl, inr}
use mathlib.Core.List.{List, [], ◌∷◌}
use lib.ListN.{length, take}
use lib.Seq.{take_at}
use lib.Dec.{ltb}
use Rattle.fields.specs.Decoded.{Decoded, refused, accepted}
use Rattle.fields.specs.Numbers.{bytes_of, Bytes}
use Rattle.fields.proofs.ByteLaws.{bytes_number, bytes_put}
use Rattle.fields.proofs.Laws.{length_bytes}
use Rattle.fields.proofs.OutputLaws.{put_there, part_before, rest_behind, wrote_length}
use Rattle.fields.proofs.PlaceLaws.{number_put}
use Rattle.catalogue.specs.Catalogue.{marked, with_mark, is_withdrawn}
use Rattle.catalogue.specs.Encode.{encode_catalogue}
use Rattle.catalogue.specs.Formed.{FormedBits}
use Rattle.catalogue.proofs.MarkLaws.{withdrawn_marked, withdrawn_unmarked}
use Rattle.catalogue.proofs.FrontLaws.{decode_front}
use Rattle.catalogue.proofs.EncodedBytes.{catalogue_bytes}
use Rattle.catalogue.proofs.Exactly as catalogue
use Rattle.catalogue.proofs.Refusals.{catalogue_refusal}
use Rattle.query.specs.Encode.{encode, payloads}
use Rattle.query.specs.Query.{Query}
use Rattle.query.specs.Decode.{payload_of, decode_query}
use Rattle.query.specs.WellFormed.{ValidPredicate}
use Rattle.query.proofs.Payloads.{payload_again}
use Rattle.query.proofs.ValidLaws.{valid_passes, passes_valid}
use Rattle.query.proofs.EncodedBytes.{query_bytes}
use Rattle.query.proofs.Exactly as question
use Rattle.query.proofs.Refusals.{query_refusal}
use Rattle.query.proofs.FrontToBack.{question_cut, question_whole, question_walk}
use Rattle.predicate.specs.Meaning.{Predicate, outcome_of, outcome}
use Rattle.predicate.specs.Outcome.{is_blank}
use Rattle.predicate.specs.Payload.{tags_of, valid_payload, predicate_of}
use Rattle.bools.specs.Bools.{which, not_true, and_parts, ltb_yes, ltb_lt, ltb_le}
use Rattle.strategy.specs.Assignment.{Assignment, Among}
use Rattle.strategy.specs.Tree.{eval, size}
use Rattle.strategy.proofs.TreeLaws.{all_none, all_more, any_none, any_more}
use Rattle.strategy.specs.Order.{is_order}
use Rattle.strategy.specs.Strategy.{Strategy, State, Right, final_state, predicates, probes}
use Rattle.strategy.specs.Trace.{trace}
use Rattle.strategy.specs.Ours.{ours}
use Rattle.strategy.proofs.OursLaws.{ours_rule}
use Rattle.strategy.proofs.Optimality.{optimal, optimal_count}
use Rattle.strategy.proofs.QueryLaws.{query_ours, query_right}
use Rattle.bitmaps.specs.Sums.{sum_of, count_of}
use Rattle.bitmaps.proofs.SumLaws.{sum_same}
use Rattle.bitmaps.specs.Bit.{bit}
use Rattle.task.specs.Task.{predicate_at, is_selected, is_probed}
use Rattle.task.specs.Input.{Input, with_query, decode_input}
use Rattle.task.proofs.Withdrawn.{selected_is}
use Rattle.answers.specs.Answer.{Refused, Accepted}
use Rattle.answers.specs.Refusals.{no_such_row_or_predicate}
use Rattle.answers.specs.Word.{packed}
use Rattle.answers.specs.Answers.{question_answer, outcome_number, outcome_answer}
use Rattle.answers.proofs.Outcomes.{outcome_small}
use Rattle.demands.specs.Run.{Lent, row_count, predicate_count, task_of, selection, probe_bitmaps, found_count, look_count, counter_at, tally_after}
use Rattle.demands.specs.Demands.{after, Reads, Keeps, Breaks, bad_form, bad_check, outcome_sentences, RunningOrder, line_bytes, counter_bytes, Kept, FirstBroken, Present, if_present, pattern, tree_value, LineOf, listed_line, looks_line}
use Rattle.demands.specs.Demands.{Demand1CatalogueForm, Demand1QuestionForm, Demand1Payload, Demand1FormsWritten, Demand1WrittenOnce, Demand1Mark, Demand1AfterColumns, Demand1FrontToBack, Demand1AfterQuestion, Demand1QuestionField, Demand1QuestionWalk, Demand1Number, Demand1Refused, Demand1Accepted, Demand1Limits, Demand1Catalogue, Demand1Question, Demand1Outcome}
use Rattle.demands.specs.Demands.{Gives, outcome_word, Reads, condition_of, Demand2Blank, Demand2AsNo, Demand2Opposite, Demand2AsBefore, Demand2Tree, Demand2Listed, Demand2Looks, Demand2Withdrawn, Demand2Further, Demand2Counts, Demand2Tally, Demand2OtherReaders, Demand3, Demand3Ours, Demand3OursRule, Demand3Count, Demand3Run}
use Rattle.demands.proofs.AfterColumns.{after_other, after_cut, after_bad, after_more, after_mark}
use Rattle.demands.proofs.DemandLaws.{catalogue_range, is_catalogue, is_question, reads_input, broken_input, broken_range, unpacked}
use Rattle.demands.proofs.DemandTables.{sum_le, line_of, line_count, front_old, order_plain, held, traced_due, probed_made, found_count_lem, look_count_lem, look_count_le, look_count_rows, selection_length, listed_line_lem, probe_bitmaps_length, looks_line_lem}
use Rattle.demands.proofs.DemandBlanks.{yes_number, blank_answer, blank_at, opposite_of, blank_false, other_opposite}
use Rattle.demands.proofs.DemandRuns.{Cases, kept_order, kept_reader, kept_tally, kept_run, broken_run, broken_number, run_cases, broken_gives, kept_gives}

-- DEMAND 1: WHAT IS ACCEPTED

pub demand_1_catalogue_form : Demand1CatalogueForm
demand_1_catalogue_form b bytes = (λ C. catalogue.accepted_exactly b C bytes, catalogue.refused_exactly b bytes)

pub demand_1_question_form : Demand1QuestionForm
demand_1_question_form C q bytes = (λ Q. question.accepted_exactly C q Q bytes, question.refused_exactly C q bytes)

pub demand_1_payload : Demand1Payload
demand_1_payload C payload = (to, from)
  where
    to : valid_payload (tags_of C) payload ≡ true → (p : Predicate) × ValidPredicate C p × (payload ≡ payload_of p)
    to h =
        let p : Predicate = predicate_of 0 payload in
        let e : payload_of p ≡ payload = payload_again (tags_of C) 0 payload h in
        let v : valid_payload (tags_of C) (payload_of p) ≡ true = rw e h in
        (p, passes_valid C p v, sym e)

    from : (p : Predicate) × ValidPredicate C p × (payload ≡ payload_of p) → valid_payload (tags_of C) payload ≡ true
    from (p, v, e) = rw e (valid_passes C p v)

pub demand_1_forms_written : Demand1FormsWritten
demand_1_forms_written C formed = (
  catalogue_bytes C formed,
  is_catalogue (encode_catalogue C) C (formed, refl),
  λ Q well. (query_bytes C formed Q well, is_question C (encode (payloads Q)) Q (well, refl)),
)

pub demand_1_written_once : Demand1WrittenOnce
demand_1_written_once = (catalogue.encode_once, question.encode_once)

pub demand_1_mark : Demand1Mark
demand_1_mark C formed = (shown, withdrawn_unmarked C)
  where
    shown : (m : List ℕ) → C.mark ≡ marked m → LineOf (λ e. is_withdrawn C e ≡ true) C.rows m
    shown m h =
        let f : FormedBits C.rows m = rw h at formed.mark in
        record { size = f.size; bytes = f.bytes; bits = λ e l. let q = withdrawn_marked C m h e in (λ x. q ∙ x, λ x. sym q ∙ x); unused = f.unused }

pub demand_1_after_columns : Demand1AfterColumns
demand_1_after_columns C formed plain tail bytes = (
  after_other C formed plain tail,
  λ tag. (
    after_cut C formed plain tail tag,
    λ l n. after_bad C formed plain tail tag l bytes n,
    after_more C formed plain tail tag,
    after_mark C formed plain tail tag,
  ),
)

pub demand_1_front_to_back : Demand1FrontToBack
demand_1_front_to_back b tail e uncut = decode_front b tail e uncut

pub demand_1_after_question : Demand1AfterQuestion
demand_1_after_question = question.encoded_followed

pub demand_1_question_field : Demand1QuestionField
demand_1_question_field C q = (question_cut C q, question_whole C q)

pub demand_1_question_walk : Demand1QuestionWalk
demand_1_question_walk = question_walk

-- DEMAND 1: THE CALLS

pub demand_1_number : Demand1Number
demand_1_number l bytes e p = (λ h. go h (run_cases l bytes), λ x. (broken_gives l e x).1)
  where
    go : (after l).word % 2 ^ 8 ≡ e → Cases l → FirstBroken l e
    go h (inl x) = absurd (omega (arith, (kept_gives l x.0 x.1).1))
    go h (inr x) = subst (λ (k : ℕ). FirstBroken l k) (sym (broken_gives l x.0 x.1).1 ∙ h) x.1

pub demand_1_refused : Demand1Refused
demand_1_refused l e x =
    let r = broken_run l e x in
    (broken_gives l e x, ap (λ (s : _). s.listed) r, ap (λ (s : _). s.looks) r, ap (λ (s : _). s.tally) r)

pub demand_1_accepted : Demand1Accepted
demand_1_accepted l bytes = (λ h. go h (run_cases l bytes), λ x. (kept_gives l x.0 x.1).1)
  where
    go : (after l).word % 2 ^ 8 ≡ 0 → Cases l → (i : Input) × Kept l i
    go h (inl x) = x
    go h (inr x) = absurd (omega (arith, (broken_gives l x.0 x.1).1, broken_number l x.0 x.1))

pub demand_1_catalogue : Demand1Catalogue
demand_1_catalogue b = (
  λ e h. let s = catalogue_range b e h in
      rw h (unpacked (Refused e) (omega arith)),
  λ C h. let s = h.0 in
      rw (is_catalogue b C h) (unpacked (Accepted C.rows (length C.columns) 0) (omega (arith, s.rows_few, s.few))),
)

pub demand_1_question : Demand1Question
demand_1_question b q = (
  λ e x. let s = broken_range b q e x in
      rw (broken_input b q e x) (unpacked (Refused e) (omega arith)),
  λ i r. let Q = r.1.0 in
      rw (reads_input b q i r) (unpacked (Accepted (predicate_count i) 0 0) (omega (arith, Q.few))),
)

pub demand_1_outcome : Demand1Outcome
demand_1_outcome b q entry c = (broken, kept)
  where
    inside : (i : Input) → (ltb entry (row_count i) && ltb c (predicate_count i)) ≡ true → (entry < row_count i) × (c < predicate_count i)
    inside i h =
        let p = and_parts (ltb entry (row_count i)) (ltb c (predicate_count i)) h in
        (ltb_lt entry (row_count i) p.0, ltb_lt c (predicate_count i) p.1)

    broken : (e : ℕ) → Breaks b q (outcome_sentences entry c) e → Gives (outcome_word b q entry c) e 0 0 0
    broken e (bad_form x) = let s = broken_range b q e x in rw (broken_input b q e x) (unpacked (Refused e) (omega arith))
    broken e (bad_check i r (inl (n, z))) =
        rw (z, reads_input b q i r, not_true (ltb entry (row_count i) && ltb c (predicate_count i)) (λ h. n (inside i h)))
        (unpacked (Refused no_such_row_or_predicate) (omega arith))
    broken e (bad_check i r (inr (y, x))) = absurd x

    kept : (i : Input) → Keeps b q (outcome_sentences entry c) i
        → Gives (outcome_word b q entry c) 0 (outcome_number (outcome i.catalogue (condition_of i c) entry)) 0 0
    kept i k =
        let z = outcome_small (outcome i.catalogue (predicate_at i.query c) entry) in
        rw (reads_input b q i k.forms, ltb_yes entry (row_count i) k.checks.0.0, ltb_yes c (predicate_count i) k.checks.0.1)
        (unpacked (Accepted (outcome_number (outcome i.catalogue (predicate_at i.query c) entry)) 0 0) (omega arith))

pub demand_1_limits : Demand1Limits
demand_1_limits = (
  catalogue_refusal,
  query_refusal,
  λ b q i r. let C = r.0.0 in let Q = r.1.0 in (C.rows_few, C.some, C.few, Q.some, Q.few, Q.shallow),
)

-- DEMAND 2

-- what working out a condition gives
told_outcome : (b q : List ℕ) (i : Input) → Reads b q i → (entry c : ℕ) → entry < row_count i → c < predicate_count i
    → Gives (outcome_word b q entry c) 0 (outcome_number (outcome i.catalogue (condition_of i c) entry)) 0 0
told_outcome b q i r entry c x y = (demand_1_outcome b q entry c).1 i (record { forms = r; checks = ((x, y), tt) })

pub demand_2_blank : Demand2Blank
demand_2_blank b q i r entry c x y =
    let told = told_outcome b q i r entry c x y in (
      λ g. (blank_at i entry c).0 (sym told.2 ∙ g.2),
      λ h. rw ((blank_at i entry c).1 h) at told,
    )

pub demand_2_as_no : Demand2AsNo
demand_2_as_no b q i r entry c x y =
    let o = outcome i.catalogue (condition_of i c) entry in
    let told = told_outcome b q i r entry c x y in (
      λ h. rw ((yes_number o).0 h) at told,
      λ g. (yes_number o).1 (sym told.2 ∙ g.2),
    )

pub demand_2_opposite : Demand2Opposite
demand_2_opposite column kind o e l = rw (opposite_of column kind o e l) (
  λ h. blank_false (outcome_of column kind o e) ((blank_answer column kind o e).1 h),
  λ n. other_opposite (outcome_of column kind o e) (not_true (is_blank (outcome_of column kind o e)) (λ h. n ((blank_answer column kind o e).0 h))),
)

pub demand_2_as_before : Demand2AsBefore
unfolding decode_input decode_query
demand_2_as_before b b' C m f f' = rw (is_catalogue b C f, is_catalogue b' (with_mark C m) f') (
  refl,
  λ q. checked_alike (decode_query C q),
  λ q entry c. answered_alike (decode_query C q) entry c,
)
  where
    checked_alike : (d : Decoded Query) → packed (question_answer (with_query C d)) ≡ packed (question_answer (with_query (with_mark C m) d))
    checked_alike (refused e) = refl
    checked_alike (accepted Q) = refl

    answered_alike : (d : Decoded Query) (entry c : ℕ) → packed (outcome_answer (with_query C d) entry c) ≡ packed (outcome_answer (with_query (with_mark C m) d) entry c)
    answered_alike (refused e) entry c = refl
    answered_alike (accepted Q) entry c = refl

pub demand_2_tree : Demand2Tree
unfolding eval
demand_2_tree a = (λ c. refl, all_none a, all_more a, any_none a, any_more a)

pub demand_2_listed : Demand2Listed
demand_2_listed l i k =
    rw (kept_run l i k, listed_line_lem i l.request.order l.listed)
    (line_of (λ e. Present i e × (tree_value i (pattern i e) ≡ true)) (is_selected (task_of i l.request.order)) (row_count i)
    (selected_is (task_of i l.request.order)))

pub demand_2_looks : Demand2Looks
demand_2_looks l i k c m =
    rw (kept_run l i k, looks_line_lem i l.request.order l.looks c m)
    (line_of _ (is_probed (task_of i l.request.order) c) (row_count i) (λ e. probed_made i l.request.order (kept_order l i k) c e))

pub demand_2_withdrawn : Demand2Withdrawn
demand_2_withdrawn l i k e m n = (
  not_true _ (λ h. n (((demand_2_listed l i k).bits e m).0 h).0),
  λ c j. not_true _ (λ h. n (((demand_2_looks l i k c j).bits e m).0 h).0),
)

pub demand_2_counts : Demand2Counts
demand_2_counts l i k = rw (← found, ← looked) (kept_gives l i k)
  where
    found : found_count (task_of i l.request.order) ≡ count_of (bit (listed_line i (after l).listed)) (row_count i)
    found = rw (kept_run l i k, listed_line_lem i l.request.order l.listed) (found_count_lem i l.request.order ∙ sym (line_count (is_selected (task_of i l.request.order)) (row_count i)))

    looked : look_count (task_of i l.request.order) ≡ sum_of (λ c. count_of (bit (looks_line i (after l).looks c)) (row_count i)) (predicate_count i)
    looked =
        look_count_lem i l.request.order
        ∙ sum_same (λ c. count_of (is_probed (task_of i l.request.order) c) (row_count i)) (λ c. count_of (bit (looks_line i (after l).looks c)) (row_count i)) (predicate_count i)
        (λ c m. rw (kept_run l i k, looks_line_lem i l.request.order l.looks c m) (sym (line_count (is_probed (task_of i l.request.order) c) (row_count i))))

-- the tally after an accepted run: its reader's eight bytes, and all the others
module _ (l : Lent) (i : Input) (k : Kept l i) where
  abbrev place : ℕ
  place = l.reader * 8

  abbrev sum : ℕ
  sum = counter_at l.tally l.reader + look_count (task_of i l.request.order)

  fits : place + 8 ≤ length l.tally
  fits = omega (arith, kept_reader l i k, (kept_tally l i k).0)

  inside : place ≤ length l.tally
  inside = omega (arith, fits)

  its_tally : (after l).tally ≡ tally_after l.tally l.reader (look_count (task_of i l.request.order))
  its_tally = ap (λ (s : _). s.tally) (kept_run l i k)

  grown : counter_at (after l).tally l.reader ≡ sum
  grown = rw its_tally (number_put place 8 sum l.tally fits (omega (arith, (kept_tally l i k).1)))

  its_bytes : counter_bytes (after l).tally l.reader ≡ bytes_of 8 sum
  its_bytes = rw its_tally (ap (take 8) (put_there place (bytes_of 8 sum) l.tally inside) ∙ take_at (bytes_of 8 sum) _ 8 (length_bytes 8 sum))

  pub bytes_stay : Bytes l.tally → Bytes (after l).tally
  bytes_stay h = rw its_tally (bytes_put place (bytes_of 8 sum) l.tally (bytes_number 8 sum) h)

  as_long : length (after l).tally ≡ length l.tally
  as_long =
      wrote_length {at = place} {p = bytes_of 8 sum} {old = l.tally} (record { bytes = its_tally; place = refl }) (omega (arith, fits, length_bytes 8 sum))

  others : (r : ℕ) → (r ≡ l.reader → ⊥) → (ltb r l.reader ≡ true) ⊎ (ltb r l.reader ≡ false) → counter_bytes (after l).tally r ≡ counter_bytes l.tally r
  others r ne (inl h) = rw its_tally (part_before place (bytes_of 8 sum) l.tally inside (r * 8) 8 (omega (arith, ltb_lt r l.reader h)))
  others r ne (inr h) =
      rw its_tally (ap (take 8) (rest_behind place (bytes_of 8 sum) l.tally inside (r * 8) (omega (arith, ltb_le r l.reader h, length_bytes 8 sum))))

pub demand_2_tally : Demand2Tally
demand_2_tally l i k = (
  (kept_gives l i k).4,
  subst (λ (x : ℕ). look_count (task_of i l.request.order) ≤ x) (mul_comm (predicate_count i) (row_count i)) (look_count_le i l.request.order (row_count i) (omega arith)),
  grown l i k,
  rw (grown l i k) (its_bytes l i k),
)

pub demand_2_other_readers : Demand2OtherReaders
demand_2_other_readers l i k = (
  as_long l i k ∙ (kept_tally l i k).0,
  λ r ne. others l i k r ne (which (ltb r l.reader)),
)

pub demand_2_further : Demand2Further
demand_2_further l i k =
    rw (kept_run l i k) (
      front_old (selection (task_of i l.request.order)) l.listed (line_bytes i) (selection_length i l.request.order),
      front_old (probe_bitmaps (task_of i l.request.order)) l.looks (predicate_count i * line_bytes i) (probe_bitmaps_length i l.request.order),
    )

-- DEMAND 3

length_predicates : (s : State) → length (predicates s) ≡ length s
unfolding predicates
length_predicates [] = refl
length_predicates (x ∷ s) = ap suc (length_predicates s)

module _ (b q : List ℕ) (i : Input) (r : Reads b q i) (order : List ℕ) (o : RunningOrder i order) where
  -- the order is one of as many predicates as the tree has leaves
  of_tree : is_order (size i.query.tree) order ≡ true
  of_tree = rw r.1.0.counted ((order_plain (predicate_count i) order).1 o)

  ours_final : (a : Assignment) → final_state (ours (tree_value i) order) a order ≡ trace (tree_value i) a order
  ours_final = query_ours i.query.tree r.1.0.numbered order of_tree

-- a right way makes at least as many looks as are due
counted : (i : Input) (order : List ℕ) → RunningOrder i order → (way : Strategy) → Right (tree_value i) order way → (a : Assignment)
    → length (predicates (trace (tree_value i) a order)) ≤ length (probes way a order)
counted i order o way R a = rw (length_predicates, length_predicates) (optimal_count (tree_value i) order (held i order o).once way R a)

pub demand_3 : Demand3
demand_3 b q i r order o way R a =
    rw (ours_final b q i r order o a) (optimal (tree_value i) order (held i order o).once way R a, counted i order o way R a)

pub demand_3_ours : Demand3Ours
demand_3_ours b q i r order o a = (
  λ c. rw (ours_final b q i r order o a) (traced_due i order o a c),
  query_right i.query.tree r.1.0.numbered order (of_tree b q i r order o) a,
)

pub demand_3_ours_rule : Demand3OursRule
demand_3_ours_rule i order s = ours_rule (tree_value i) order s

pub demand_3_count : Demand3Count
demand_3_count b q i r order o =
    look_count_rows i order o
    ∙ sum_same (λ e. if_present i e (length (predicates (trace (tree_value i) (pattern i e) order)))) (λ e. if_present i e (length (probes (ours (tree_value i) order) (pattern i e) order))) (row_count i)
    (λ e l. ap (λ (s : State). if_present i e (length (predicates s))) (sym (ours_final b q i r order o (pattern i e))))

pub demand_3_run : Demand3Run
demand_3_run l i k way R = (looks, count)
  where
    looks : (e c : ℕ) → e < row_count i → c < predicate_count i → bit (looks_line i (after l).looks c) e ≡ true → Among c (probes way (pattern i e) l.request.order)
    looks e c m n h =
        optimal (tree_value i) l.request.order (held i l.request.order (kept_order l i k)).once way R (pattern i e) c
        ((traced_due i l.request.order (kept_order l i k) (pattern i e) c).1 (((demand_2_looks l i k c n).bits e m).0 h).1)

    present_le : (w : Bool) {x y : ℕ} → x ≤ y → cond w 0 x ≤ cond w 0 y
    present_le true h = omega arith
    present_le false h = h

    count : (after l).word / 2 ^ 40 ≤ sum_of (λ e. if_present i e (length (probes way (pattern i e) l.request.order))) (row_count i)
    count =
        subst (λ (x : ℕ). x ≤ sum_of (λ e. if_present i e (length (probes way (pattern i e) l.request.order))) (row_count i))
        (sym ((kept_gives l i k).4 ∙ look_count_rows i l.request.order (kept_order l i k)))
        (sum_le (λ e. if_present i e (length (predicates (trace (tree_value i) (pattern i e) l.request.order)))) (λ e. if_present i e (length (probes way (pattern i e) l.request.order))) (row_count i)
        (λ e m. present_le (is_withdrawn i.catalogue e) (counted i l.request.order (kept_order l i k) way R (pattern i e))))
