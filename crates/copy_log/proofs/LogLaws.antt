-- The marked log is the log of the probes that the marks stand for.
use Prim.Native.Nat.{ℕ, suc, ◌<◌}
use native.Mathlib.Omega.{arith}
use mathlib.Core.Path.{◌≡◌, refl, sym, ap, ◌∙◌}
use mathlib.Core.Bool.{Bool, true, false}
use mathlib.Core.List.{List, [], ◌∷◌, ◌++◌}
use lib.ListN.{length, get_or}
use Rattle.strategy.specs.Assignment.{keep_if}
use Rattle.bitmaps.specs.Sums.{joined}
use Rattle.bitmaps.proofs.SumLaws.{joined_same, joined_first}
use Rattle.bitmaps.specs.Table.{line_bit}
use Rattle.task.specs.Log.{probe_field, row_fields, log_fields}
use Rattle.copy_log.specs.MarkedLog.{marked_number, field_if, marked_field, marked_row, marked_log, marked_at}

module _ (P M : List ℕ) (row : ℕ) (o : ℕ → ℕ) where
  -- marks say what the outcomes are where the row was probed
  row_logged : (turns : List ℕ) (blank : ℕ → Bool)
      → ((i : ℕ) → i < length turns → line_bit P (get_or turns i 0) row ≡ true → o (get_or turns i 0) ≡ marked_number (line_bit M (get_or turns i 0) row) (blank i))
      → marked_row turns P M blank row ≡ row_fields o row (marked_at P row turns)
  unfolding marked_row row_fields marked_at joined
  row_logged [] blank same = refl
  row_logged (c ∷ cs) blank same =
      joined_first (marked_field (c ∷ cs) P M blank row) (length cs)
      ∙ ap (λ (t : List ℕ). field_if (line_bit P c row) row c (marked_number (line_bit M c row) (blank 0)) ++ t) (row_logged cs (λ i. blank (suc i)) (λ i l. same (suc i) (omega arith)))
      ∙ first (line_bit P c row) (same 0 (omega arith))
    where
      first : (p : Bool) → (p ≡ true → o c ≡ marked_number (line_bit M c row) (blank 0))
          → field_if p row c (marked_number (line_bit M c row) (blank 0)) ++ row_fields o row (marked_at P row cs) ≡ row_fields o row (keep_if p c (marked_at P row cs))
      first true e = ap (λ (x : ℕ). probe_field row c x ++ row_fields o row (marked_at P row cs)) (sym (e refl))
      first false e = refl

pub marked_log_lem : (turns P M : List ℕ) (blank : (row i : ℕ) → Bool) (rows : ℕ) (o : (row c : ℕ) → ℕ) (s : ℕ → List ℕ) → ((e : ℕ) → e < rows → s e ≡ marked_at P e turns)
    → ((e i : ℕ) → e < rows → i < length turns → line_bit P (get_or turns i 0) e ≡ true → o e (get_or turns i 0) ≡ marked_number (line_bit M (get_or turns i 0) e) (blank e i))
    → marked_log turns P M blank rows ≡ log_fields o s rows
unfolding marked_log log_fields
marked_log_lem turns P M blank rows o s marked same =
    joined_same (λ e. marked_row turns P M (blank e) e) (λ e. row_fields (o e) e (s e)) rows
    (λ e l. row_logged P M e (o e) turns (blank e) (λ i. same e i l) ∙ ap (row_fields (o e) e) (sym (marked e l)))
