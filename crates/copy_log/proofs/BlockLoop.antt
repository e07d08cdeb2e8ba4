-- The loop that writes the fields of a block, row after row.
use Prim.Native.Nat.{ℕ, suc, ◌+◌, ◌≤◌, ◌<◌}
use native.Mathlib.Numerals.{add-one}
use native.Mathlib.Omega.{arith}
use mathlib.Core.Path.{◌≡◌, refl, sym, ap, ap₂, ◌∙◌}
use mathlib.Core.Bool.{Bool, ◌&&◌}
use mathlib.Core.List.{List}
use lib.ListN.{length, get_or, length-append}
use lib.Dec.{ltb}
use Rattle.bools.specs.Bools.{and_left, ltb_yes, ltb_lt}
use Rattle.fields.specs.Output.{Wrote}
use Rattle.fields.proofs.OutputLaws.{wrote_then, wrote_none, wrote_same}
use Rattle.sets.specs.Set.{has}
use Rattle.bitmaps.specs.Sums.{joined}
use Rattle.bitmaps.proofs.SumLaws.{joined_same, joined_grows}
use Rattle.bitmaps.specs.Table.{line_bit}
use Rattle.bitmaps.specs.Word.{block_rows}
use Rattle.gather.specs.Turns.{TurnsFor}
use Rattle.copy_log.specs.MarkedLog.{marked_number, field_if, turn_field, turn_fields, marked_field, marked_row, marked_from, blanks_in, HasTurns}

pub record BlockLoop (turns P M blanks : List ℕ) (base at : ℕ) (old : List ℕ) (d end : ℕ) (new : List ℕ) : Type 0 where
  pub wrote : Wrote at (marked_from turns P M (blanks_in blanks) base d) old end new
  pub size : length new ≡ length old

pub block_start : (turns P M blanks : List ℕ) (base at : ℕ) (old : List ℕ) → BlockLoop turns P M blanks base at old 0 at old
unfolding joined
block_start turns P M blanks base at old = record { wrote = wrote_none at old; size = refl }

module _ {turns P M blanks : List ℕ} {base at : ℕ} {old : List ℕ} {d end : ℕ} {new : List ℕ} (L : BlockLoop turns P M blanks base at old d end new)
    {dues mets : List ℕ} (D : TurnsFor turns P base dues) (E : TurnsFor turns M base mets) (l : d < block_rows) where
  pub due_turns : HasTurns turns (get_or dues d 0)
  due_turns i e = ltb_lt i (length turns) (and_left (ltb i (length turns)) (line_bit P (get_or turns i 0) (base + d)) (sym (D.sets d i l) ∙ e))

  -- the sets have the tables' marks
  row_text : turn_fields turns (base + d) (get_or dues d 0) (get_or mets d 0) (get_or blanks d 0) ≡ marked_row turns P M (blanks_in blanks d) (base + d)
  unfolding turn_fields marked_row
  row_text =
      joined_same (turn_field turns (base + d) (get_or dues d 0) (get_or mets d 0) (get_or blanks d 0)) (marked_field turns P M (blanks_in blanks d) (base + d)) (length turns)
      (λ i k. ap₂ (λ (p m : Bool). field_if p (base + d) (get_or turns i 0) (marked_number m (blanks_in blanks d i))) (marks P dues D i k) (marks M mets E i k))
    where
      marks : (table gathered : List ℕ) → TurnsFor turns table base gathered → (i : ℕ) → i < length turns → has (get_or gathered d 0) i ≡ line_bit table (get_or turns i 0) (base + d)
      marks table gathered T i k = T.sets d i l ∙ ap (λ (b : Bool). b && line_bit table (get_or turns i 0) (base + d)) (ltb_yes i (length turns) k)

  module _ {count : ℕ} (more : d < count) (room : at + length (marked_from turns P M (blanks_in blanks) base count) ≤ length old) where
    pub row_room : end + length (turn_fields turns (base + d) (get_or dues d 0) (get_or mets d 0) (get_or blanks d 0)) ≤ length new
    unfolding joined
    row_room =
        let g = joined_grows (λ d. marked_row turns P M (blanks_in blanks d) (base + d)) (suc d) count more in
        let e = length-append (marked_from turns P M (blanks_in blanks) base d) (marked_row turns P M (blanks_in blanks d) (base + d)) in
        omega (arith, L.wrote.place, L.size, ap length row_text)

    pub block_next : {r : ℕ} {newer : List ℕ} → length newer ≡ length new → Wrote end (turn_fields turns (base + d) (get_or dues d 0) (get_or mets d 0) (get_or blanks d 0)) new r newer
        → BlockLoop turns P M blanks base at old (d + 1) r newer
    unfolding joined
    block_next size wrote = record {
      wrote = rw (add-one d) (wrote_then (omega (arith, row_room, L.size)) L.wrote (wrote_same row_text wrote));
      size = size ∙ L.size;
    }
