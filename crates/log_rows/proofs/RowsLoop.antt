-- The loop that writes the log of all rows, block after block; the last block may have fewer rows.
use Prim.Native.Nat.{ℕ, ◌+◌, ◌-◌, ◌%◌, ◌≤◌, ◌<◌, min}
use native.Mathlib.Omega.{arith}
use mathlib.Core.Path.{◌≡◌, refl, sym, ap, ◌∙◌}
use mathlib.Core.Bool.{Bool, ◌&&◌}
use mathlib.Core.List.{List, ◌++◌}
use lib.ListN.{length, get_or, length-append}
use Rattle.bools.specs.Bools.{ltb_yes}
use Rattle.fields.specs.Output.{Wrote}
use Rattle.fields.proofs.OutputLaws.{wrote_then, wrote_none, wrote_same}
use Rattle.bitmaps.specs.Sums.{joined}
use Rattle.bitmaps.proofs.SumLaws.{joined_split, joined_grows, joined_same}
use Rattle.bitmaps.specs.Table.{line_bit}
use Rattle.bitmaps.specs.Word.{block_rows}
use Rattle.copy_log.specs.MarkedLog.{marked_number, field_if, marked_field, marked_row, marked_log, marked_from, blanks_in}
use Rattle.plan.specs.declared.table.Access.{Access}
use Rattle.task.specs.Task.{Task}
use Rattle.blanks.specs.Blanks.{blank_turn, BlankTurns}
use Rattle.log_rows.specs.Written.{task_log, LogReady}

-- the log of the rows before `base` is written
pub record RowsLoop (b : List ℕ) (plan : List Access) (turns P M : List ℕ) (rows : ℕ) (old : List ℕ) (base at : ℕ) (new : List ℕ) : Type 0 where
  pub whole : base % block_rows ≡ 0
  pub size : length new ≡ length old
  pub wrote : (T : Task) (q : List ℕ) → LogReady T b q plan turns P M rows old → Wrote 0 (task_log T turns P M (min base rows)) old at new

pub rows_start : (b : List ℕ) (plan : List Access) (turns P M : List ℕ) (rows : ℕ) (old : List ℕ) → RowsLoop b plan turns P M rows old 0 0 old
unfolding marked_log joined
rows_start b plan turns P M rows old = record {
  whole = refl;
  size = refl;
  wrote = λ T q R. let e : min 0 rows ≡ 0 = omega arith in rw e (wrote_none 0 old);
}

-- the fields of a block depend on the blanks of its turns alone
marked_same : (turns P M : List ℕ) (f g : (d i : ℕ) → Bool) (base count : ℕ) → ((d i : ℕ) → d < count → i < length turns → f d i ≡ g d i)
    → marked_from turns P M f base count ≡ marked_from turns P M g base count
unfolding marked_row
marked_same turns P M f g base count same =
    joined_same (λ d. marked_row turns P M (f d) (base + d)) (λ d. marked_row turns P M (g d) (base + d)) count
    (λ d l. joined_same (marked_field turns P M (f d) (base + d)) (marked_field turns P M (g d) (base + d)) (length turns)
    (λ i k. ap (λ (b : Bool). field_if (line_bit P (get_or turns i 0) (base + d)) (base + d) (get_or turns i 0) (marked_number (line_bit M (get_or turns i 0) (base + d)) b)) (same d i l k)))

module _ {b : List ℕ} {plan : List Access} {turns P M : List ℕ} {rows : ℕ} {old : List ℕ} {base at : ℕ} {new : List ℕ} (L : RowsLoop b plan turns P M rows old base at new) where
  pub rows_end : rows ≤ base → (T : Task) (q : List ℕ) → LogReady T b q plan turns P M rows old → Wrote 0 (task_log T turns P M rows) old at new
  rows_end l T q R = let e : min base rows ≡ rows = omega arith in rw e at (L.wrote T q R)

  -- the block at `base`, with the blanks that were gathered for it
  module _ (more : base < rows) {count : ℕ} (count-is : count ≡ min block_rows (rows - base)) (blanks : List ℕ) (B : BlankTurns b plan turns P M base blanks) where
    module _ (T : Task) (q : List ℕ) (R : LogReady T b q plan turns P M rows old) where
      block : marked_from turns P M (λ d. blank_turn T turns P (base + d)) base count ≡ marked_from turns P M (blanks_in blanks) base count
      block = marked_same turns P M (λ d. blank_turn T turns P (base + d)) (blanks_in blanks) base count
          (λ d i l k. sym ((B T q R.probes).sets d i (omega arith) ∙ ap (λ (x : Bool). x && blank_turn T turns P (base + d) i) (ltb_yes i (length turns) k)))

      text : task_log T turns P M (min (base + block_rows) rows) ≡ task_log T turns P M base ++ marked_from turns P M (blanks_in blanks) base count
      unfolding marked_log
      text =
          let e : min (base + block_rows) rows ≡ base + count = omega arith in
          ap (joined (λ row. marked_row turns P M (blank_turn T turns P row) row)) e ∙ joined_split (λ row. marked_row turns P M (blank_turn T turns P row) row) base count
          ∙ ap (λ (t : List ℕ). task_log T turns P M base ++ t) block

      wrote_before : Wrote 0 (task_log T turns P M base) old at new
      wrote_before = let e : min base rows ≡ base = omega arith in rw e at (L.wrote T q R)

      log_grows : length (task_log T turns P M (min (base + block_rows) rows)) ≤ length (task_log T turns P M rows)
      unfolding marked_log
      log_grows = joined_grows (λ row. marked_row turns P M (blank_turn T turns P row) row) (min (base + block_rows) rows) rows (omega arith)

      pub block_room : at + length (marked_from turns P M (blanks_in blanks) base count) ≤ length new
      block_room =
          let e = ap length text ∙ length-append (task_log T turns P M base) (marked_from turns P M (blanks_in blanks) base count) in
          omega (arith, wrote_before.place, L.size, R.room, log_grows)

    pub rows_next : {r : ℕ} {newer : List ℕ} → length newer ≡ length new → Wrote at (marked_from turns P M (blanks_in blanks) base count) new r newer
        → RowsLoop b plan turns P M rows old (base + block_rows) r newer
    rows_next size wrote = record {
      whole = omega (arith, L.whole);
      size = size ∙ L.size;
      wrote = λ T q R. wrote_same (sym (text T q R)) (wrote_then (omega (arith, block_room T q R, L.size)) (wrote_before T q R) wrote);
    }
