-- The loop that writes a row's fields: those of the turns passed are written, the other turns of `due` are in `left`.
use Prim.Native.Nat.{ℕ, suc, ◌+◌, ◌*◌, ◌≤◌, ◌<◌}
use native.Mathlib.Omega.{arith}
use mathlib.Core.Path.{◌≡◌, refl, sym, ap, ◌∙◌}
use mathlib.Core.Bool.{Bool, true, false, ◌&&◌, cond}
use mathlib.Core.Logic.{◌⊎◌, inl, inr}
use mathlib.Core.List.{List, [], ◌++◌}
use lib.ListN.{length, get_or, length-append}
use mir.Val.{bool_byte}
use lib.Dec.{eqb, leb, ltb, leb-zero}
use Rattle.bools.specs.Bools.{which, and_parts, same?, eqb_self, eqb_ne, ltb_no, ltb_lt, ltb_le, leb_yes, leb_le}
use Rattle.fields.specs.Output.{Wrote}
use Rattle.fields.proofs.OutputLaws.{wrote_then, wrote_none, wrote_same}
use Rattle.sets.specs.Set.{has}
use Rattle.sets.specs.SetLaws.{has_none}
use Rattle.sets.specs.Kept.{FirstIs, RestIs}
use Rattle.sets.specs.KeptLaws.{first_least, rest_has}
use Rattle.bitmaps.specs.Sums.{joined, digit}
use Rattle.bitmaps.proofs.SumLaws.{joined_below, joined_grows}
use Rattle.task.specs.Log.{probe_field_size, probe_field}
use Rattle.copy_log.specs.MarkedLog.{marked_number, turn_field, turn_fields, HasTurns}
use Rattle.task.proofs.Fields.{probe_length}

pub record RowLoop (turns : List ℕ) (row due met blank at : ℕ) (old : List ℕ) (left end : ℕ) (new : List ℕ) : Type 0 where
  pub passed : ℕ
  pub inside : passed ≤ length turns
  pub to_come : (i : ℕ) → has left i ≡ (leb passed i && has due i)
  pub wrote : Wrote at (joined (turn_field turns row due met blank) passed) old end new
  pub size : length new ≡ length old

pub row_start : (turns : List ℕ) (row due met blank at : ℕ) (old : List ℕ) → RowLoop turns row due met blank at old due at old
unfolding joined
row_start turns row due met blank at old = record {
  passed = 0;
  inside = omega arith;
  to_come = λ i. sym (ap (λ (b : Bool). b && has due i) (leb-zero i));
  wrote = wrote_none at old;
  size = refl;
}

module _ {turns : List ℕ} {row due met blank at : ℕ} {old : List ℕ} {left end : ℕ} {new : List ℕ} (L : RowLoop turns row due met blank at old left end new) where
  -- a turn that is passed over has no field
  none : (i : ℕ) → L.passed ≤ i → has left i ≡ false → turn_field turns row due met blank i ≡ []
  none i l e = rw (sym (L.to_come i ∙ ap (λ (b : Bool). b && has due i) (leb_yes L.passed i l)) ∙ e)

  pub row_end : left ≡ 0 → Wrote at (turn_fields turns row due met blank) old end new
  unfolding turn_fields
  row_end e = wrote_same (sym (joined_below (turn_field turns row due met blank) L.passed (length turns) L.inside (λ i l k. none i l (ap (λ (x : ℕ). has x i) e ∙ has_none i)))) L.wrote

  module _ {t : ℕ} (T : FirstIs left t) where
    next_due : (leb L.passed t ≡ true) × (has due t ≡ true)
    next_due = and_parts (leb L.passed t) (has due t) (sym (L.to_come t) ∙ T.among)

    passed_le : L.passed ≤ t
    passed_le = leb_le L.passed t next_due.0

    text : joined (turn_field turns row due met blank) (suc t) ≡ joined (turn_field turns row due met blank) L.passed ++ probe_field row (get_or turns t 0) (marked_number (has met t) (has blank t))
    unfolding joined
    text = rw (joined_below (turn_field turns row due met blank) L.passed t passed_le (λ i l k. none i l (first_least T i k)), next_due.1)

    module _ (few : HasTurns turns due) where
      pub next_inside : t < length turns
      next_inside = few t next_due.1

      module _ (room : at + length (turn_fields turns row due met blank) ≤ length old) where
        pub next_room : end + probe_field_size ≤ length new
        unfolding turn_fields
        next_room =
            let g = joined_grows (turn_field turns row due met blank) (suc t) (length turns) next_inside in
            let e = ap length text ∙ length-append (joined (turn_field turns row due met blank) L.passed) (probe_field row (get_or turns t 0) (marked_number (has met t) (has blank t))) in
            omega (arith, L.wrote.place, L.size, probe_length row (get_or turns t 0) (marked_number (has met t) (has blank t)))

        -- the field is written: w is t at another width, x and y tell whether the turn is one of a yes or of a blank
        pub row_next : {w x y next r : ℕ} {newer : List ℕ} → w ≡ t → x ≡ bool_byte (has met t) → y ≡ bool_byte (has blank t) → RestIs left next → length newer ≡ length new
            → Wrote end (probe_field row (get_or turns w 0) (x + 2 * y)) new r newer → RowLoop turns row due met blank at old next r newer
        row_next w-is x-is y-is R size wrote = record {
          passed = suc t;
          inside = next_inside;
          to_come = λ i. rest_has T R i ∙ after i (same? i t);
          wrote = wrote_same (sym text) (wrote_then (omega (arith, next_room, L.size)) L.wrote (rw (w-is, x-is, y-is, digit_is (has met t), digit_is (has blank t)) at wrote));
          size = size ∙ L.size;
        }
          where
            digit_is : (b : Bool) → bool_byte b ≡ digit b
            digit_is true = refl
            digit_is false = refl

            after : (i : ℕ) → (i ≡ t) ⊎ (i ≡ t → ⊥) → cond (eqb i t) false (has left i) ≡ (leb (suc t) i && has due i)
            after i (inl q) = rw (q, eqb_self t, ltb_no t t (omega arith))
            after i (inr ne) = rw (eqb_ne i t ne) (go (which (ltb t i)))
              where
                go : (ltb t i ≡ true) ⊎ (ltb t i ≡ false) → has left i ≡ (ltb t i && has due i)
                go (inl y) =
                    let k : t < i = ltb_lt t i y in
                    L.to_come i ∙ ap (λ (b : Bool). b && has due i) (leb_yes L.passed i (omega (arith, passed_le)) ∙ sym y)
                go (inr y) = first_least T i (omega (arith, ne, ltb_le t i y)) ∙ sym (ap (λ (b : Bool). b && has due i) y)
