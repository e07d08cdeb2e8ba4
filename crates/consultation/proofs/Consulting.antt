-- The register of a run, with as many conditions as the order has bytes, fits the output and is the definition's.
use Prim.Native.Nat.{ℕ, zero, suc, ◌*◌, ◌≤◌}
use native.Mathlib.Nat.{mul-le-mul_right}
use native.Mathlib.Omega.{arith}
use mathlib.Core.Path.{◌≡◌, refl, sym, ap, ap₂, ◌∙◌}
use mathlib.Core.Bool.{Bool, true, false}
use mathlib.Core.Logic.{◌⊎◌, inl, inr}
use mathlib.Core.List.{List}
use lib.ListN.{length}
use Rattle.fields.specs.Decoded.{Decoded, refused, accepted}
use Rattle.catalogue.specs.Catalogue.{Catalogue}
use Rattle.catalogue.specs.Format.{row_limit}
use Rattle.catalogue.specs.Decode.{decode_catalogue}
use Rattle.std.specs.Prelude.{Result, Ok, Err, MatchResult}
use Rattle.catalogue.specs.declared.refusal.Refusal.{Refusal}
use Rattle.layout.specs.declared.Layout.{Layout}
use Rattle.layout.specs.Layout.{LaidOut}
use Rattle.query.specs.Format.{predicate_limit}
use Rattle.strategy.specs.Order.{is_order}
use Rattle.bitmaps.specs.Bitmap.{bytes_for}
use Rattle.task.specs.Input.{Input, decode_input}
use Rattle.answers.specs.Word.{number_in, first_in, third_in}
use Rattle.answers.specs.Refusals.{not_order}
use Rattle.answers.specs.Checks.{checked}
use Rattle.demands.specs.Run.{Lent, Ran, ran, row_count, predicate_count, task_of, found_count, look_count, run_on, run_of}
use Rattle.demands.specs.Demands.{Reads, FormBroken, bad_form, bad_check, Kept, FirstBroken}
use Rattle.demands.proofs.DemandLaws.{Decodes, decoded_input, reads_input, broken_input, decoded_cases}
use Rattle.demands.proofs.DemandTables.{order_plain}
use Rattle.demands.proofs.DemandRuns.{kept_gives, broken_gives, broken_number}
use Rattle.register.specs.Register as register
use Rattle.register.specs.Writing.{room_for}
use Rattle.consultation.specs.Consultation.{listed_size, looks_size, lent_by, consultation_run, register_of_run, register_after, consultation_of, longest}

-- the rows of a layout, or 0 where the catalogue is refused: those of the catalogue, if there is one
pub rows_shown : (b : List ℕ) (r : Result Layout Refusal) (rows : ℕ) (d : Decoded Catalogue) → LaidOut b r d → MatchResult r (λ l. rows ≡ l.rows) (λ e. rows ≡ 0)
    → (rows ≤ row_limit) × ((C : Catalogue) → d ≡ accepted C → rows ≡ C.rows)
rows_shown b (Ok l) rows (accepted C) h m = (omega (arith, h.short), λ D e. let y : C ≡ D = cc in m ∙ h.rows ∙ ap (λ (x : Catalogue). x.rows) y)
rows_shown b (Ok l) rows (refused n) h m = absurd h
rows_shown b (Err x) rows (accepted C) h m = absurd h
rows_shown b (Err x) rows (refused n) h m = (omega arith, λ D e. let y : ◌≡◌ {A = ℕ} 0 1 = cc in absurd (omega arith))

-- what keeps its length
pub as_long : {m n : ℕ} → n ≡ m → m ≤ n
as_long e = omega arith

pub has_room : (rows n a b o : ℕ) → rows ≤ row_limit → n ≤ predicate_limit → listed_size ≤ a → looks_size ≤ b → longest ≤ o
    → (bytes_for rows ≤ a) × (n * bytes_for rows ≤ b) × (room_for rows n ≤ o)
has_room rows n a b o h l e f g = (omega arith, omega (arith, mul-le-mul_right (bytes_for rows) l), omega arith)

-- a number other than 0 in the word: the register of a refusal, whatever stands beside it
refused_text : (rows n e : ℕ) (r : Ran) → number_in r.word ≡ e → 1 ≤ e → register_of_run rows n r ≡ register.refused e
refused_text rows n zero r z l = absurd (omega arith)
refused_text rows n (suc e) r z l = rw z

-- 0 in the word: the register of an accepted run, with the counts that the word holds
accepted_text : (rows n found look_count_lem : ℕ) (r : Ran) → number_in r.word ≡ 0 → first_in r.word ≡ found → third_in r.word ≡ look_count_lem
    → register_of_run rows n r ≡ register.accepted found look_count_lem rows n r.listed r.looks
accepted_text rows n found look_count_lem r e f g = rw (e, f, g)

module _ (b q order : List ℕ) where
  abbrev lent : Lent
  lent = lent_by b q order

  abbrev after : Ran
  after = consultation_run b q order

  abbrev written : (rows n : ℕ) → List ℕ
  written rows n = register_of_run rows n after

  decoded_text : (i : Input) → decode_input b q ≡ accepted i → consultation_of b q order ≡ written (row_count i) (predicate_count i)
  decoded_text i e = ap (λ (d : Decoded Input). register_after d after) e

  read_text : (i : Input) → Reads b q i → consultation_of b q order ≡ written (row_count i) (predicate_count i)
  read_text i r = decoded_text i (reads_input b q i r)

  -- in the words of the demands page: the counts and the tables of a run in which no check fails, and the number of the first that fails
  pub kept_text : (i : Input) → Kept lent i
      → consultation_of b q order ≡ register.accepted (found_count (task_of i order)) (look_count (task_of i order)) (row_count i) (predicate_count i) after.listed after.looks
  kept_text i k =
      let g = kept_gives lent i k in
      read_text i k.forms ∙ accepted_text (row_count i) (predicate_count i) (found_count (task_of i order)) (look_count (task_of i order)) after g.1 g.2 g.4

  pub broken_text : (e : ℕ) → FirstBroken lent e → consultation_of b q order ≡ register.refused e
  broken_text e x = go x
    where
      read : (i : Input) → Reads b q i → consultation_of b q order ≡ register.refused e
      read i s = read_text i s ∙ refused_text (row_count i) (predicate_count i) e after (broken_gives lent e x).1 (broken_number lent e x).0

      go : FirstBroken lent e → consultation_of b q order ≡ register.refused e
      go (bad_form f) = ap (λ (d : Decoded Input). register_after d after) (broken_input b q e f)
      go (bad_check i s f) = read i s

  not_order_lem : (i : Input) → decode_input b q ≡ accepted i → is_order (predicate_count i) order ≡ false → number_in after.word ≡ not_order
  unfolding run_of run_on checked
  not_order_lem i d h = rw (d, h)

  module _ (rows : ℕ) (shown : (C : Catalogue) → decode_catalogue b ≡ accepted C → rows ≡ C.rows) where
    same_rows : (i : Input) → Decodes b q i → rows ≡ row_count i
    same_rows i d = shown i.catalogue d.0

    -- an accepted order has as many bytes as the question has conditions, and a refusal's register shows none
    written_is : written rows (length order) ≡ consultation_of b q order
    written_is = forms (decoded_cases b q)
      where
        orders : (i : Input) → Decodes b q i → (x : Bool) → is_order (predicate_count i) order ≡ x → written rows (length order) ≡ consultation_of b q order
        orders i d true h = ap₂ written (same_rows i d) ((order_plain (predicate_count i) order).0 h).0 ∙ sym (decoded_text i (decoded_input b q i d))
        orders i d false h =
            let z = not_order_lem i (decoded_input b q i d) h in
            refused_text rows (length order) not_order after z (omega arith)
            ∙ sym (decoded_text i (decoded_input b q i d) ∙ refused_text (row_count i) (predicate_count i) not_order after z (omega arith))

        forms : ((i : Input) × Decodes b q i) ⊎ ((e : ℕ) × FormBroken b q e) → written rows (length order) ≡ consultation_of b q order
        forms (inl (i, d)) = orders i d (is_order (predicate_count i) order) refl
        forms (inr (e, x)) =
            refused_text rows (length order) e after (broken_gives lent e (bad_form x)).1 (broken_number lent e (bad_form x)).0 ∙ sym (broken_text e (bad_form x))

    -- what is printed of the three numbers in the word
    pub consulted : (listed looks tally out new : List ℕ) (w n : ℕ) → ran w listed looks tally ≡ after
        → {number found looked : ℕ} → number ≡ number_in w → found ≡ first_in w → looked ≡ third_in w
        → register.Printed (register.register_of number found looked rows (length order) listed looks) out n new → register.Printed (consultation_of b q order) out n new
    consulted listed looks tally out new w n e f g k h =
        let same : register_of_run rows (length order) (ran w listed looks tally) ≡ consultation_of b q order =
        ap (register_of_run rows (length order)) e ∙ written_is in
        rw same at (rw (f, g, k) at h)
