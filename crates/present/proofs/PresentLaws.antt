-- The rows of a block that take part: the bits of the mark's line, and of the set.
use Prim.Native.Nat.{ℕ, zero, suc, ◌+◌, ◌-◌, ◌*◌, ◌/◌, ◌%◌, ◌^◌, ◌≤◌, ◌<◌}
use native.Mathlib.Omega.{arith}
use mathlib.Core.Path.{◌≡◌, refl, sym, ap, ap₂, ◌∙◌}
use mathlib.Core.Bool.{Bool, true, not, ◌&&◌}
use mathlib.Core.List.{List, [], ◌∷◌, ◌++◌}
use lib.ListN.{length, get_or, take, drop, replicate, length-drop, length-replicate}
use lib.Seq.{get_or-drop}
use lib.Dec.{eqb, ltb}
use Rattle.fields.specs.Numbers.{Bytes}
use Rattle.fields.specs.Output.{Wrote}
use Rattle.fields.proofs.ByteLaws.{bytes_drop}
use Rattle.fields.proofs.OutputLaws.{put_front_lem, wrote_length}
use Rattle.fields.proofs.Parts.{part_rest}
use Rattle.bools.specs.Bools.{and_left, iff_eq, ltb_yes, ltb_lt}
use Rattle.words.specs.Words.{word_at}
use Rattle.sets.specs.Set.{has}
use Rattle.sets.specs.SetLaws.{minus_and}
use Rattle.bitmaps.specs.Bit.{bit}
use Rattle.bitmaps.specs.Table.{line_size}
use Rattle.bitmaps.proofs.TableLaws.{zeros}
use Rattle.bitmaps.specs.Word.{block_rows, word_size, rows_set}
use Rattle.bitmaps.proofs.WordLaws.{word_has, rows_has}
use Rattle.present.specs.Present.{WithdrawnFor, present_set}

-- THE LINE

-- bytes with zeros behind them, read anywhere
zeros_behind : (m z : List ℕ) (i : ℕ) → ((j : ℕ) → get_or z j 0 ≡ 0) → get_or (m ++ z) i 0 ≡ get_or m i 0
zeros_behind [] z i h = h i
zeros_behind (x ∷ m) z zero h = refl
zeros_behind (x ∷ m) z (suc i) h = zeros_behind m z i h

mark_put : {r : ℕ} (m line : List ℕ) → length m ≤ line_size → Bytes m → Wrote 0 m (replicate line_size 0) r line → WithdrawnFor m line
unfolding bit
mark_put m line l b w = record {
  size = wrote_length w (omega (arith, w.place, full)) ∙ full;
  bytes = λ i. rw (same i) (b i);
  bits = λ k. ap (λ (x : ℕ). eqb (x / 2 ^ (k % 8) % 2) 1) (same (k / 8));
}
  where
    full : length {A = ℕ} (replicate line_size 0) ≡ line_size
    full = length-replicate {A = ℕ} line_size 0

    same : (i : ℕ) → get_or line i 0 ≡ get_or m i 0
    same i =
        ap (λ (t : List ℕ). get_or t i 0) (w.bytes ∙ put_front_lem m (replicate line_size 0))
        ∙ zeros_behind m (drop (length m) (replicate line_size 0)) i (λ j. get_or-drop (length m) (replicate line_size 0) j 0 ∙ zeros line_size (length m + j))

-- the mark is what is left of the catalogue
pub withdrawn_line : {r : ℕ} (b line : List ℕ) (mark : ℕ) → length b ≤ mark + line_size → Bytes b → Wrote 0 (take (length b - mark) (drop mark b)) (replicate line_size 0) r line
    → WithdrawnFor (drop mark b) line
withdrawn_line b line mark l bytes w =
    mark_put (drop mark b) line (omega (arith, length-drop mark b)) (bytes_drop b mark bytes) (rw (part_rest b mark) at w)

-- THE SET

module _ (W : List ℕ) (rows base d : ℕ) where
  present_minus : has (present_set W rows base) d ≡ (has (rows_set (rows - base)) d && not (has (word_at W (base / 8) word_size) d))
  present_minus = minus_and (rows_set (rows - base)) (word_at W (base / 8) word_size) d

  -- a row that takes part is one of those that there are
  pub present_there : has (present_set W rows base) d ≡ true → has (rows_set (rows - base)) d ≡ true
  present_there y = and_left (has (rows_set (rows - base)) d) _ (sym present_minus ∙ y)

  -- and of these it takes part exactly if it is not withdrawn
  pub present_has : Bytes W → base % block_rows ≡ 0 → d < block_rows → base < rows → has (present_set W rows base) d ≡ (ltb (base + d) rows && not (bit W (base + d)))
  present_has b whole l inside =
      let p : base / 8 * 8 + d ≡ base + d = omega arith in
      present_minus ∙ ap₂ (λ (x y : Bool). x && not y) (rows_has (rows - base) d l ∙ there) (word_has W b (base / 8) d l ∙ ap (bit W) p)
    where
      there : ltb d (rows - base) ≡ ltb (base + d) rows
      there =
          iff_eq (ltb d (rows - base)) (ltb (base + d) rows)
          (λ y. let m : d < rows - base = ltb_lt d (rows - base) y in ltb_yes (base + d) rows (omega arith))
          (λ y. let m : base + d < rows = ltb_lt (base + d) rows y in ltb_yes d (rows - base) (omega arith))
