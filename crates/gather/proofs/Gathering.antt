-- The loop that gathers a block's turns, turn after turn.
use Prim.Native.Nat.{ℕ, ◌+◌, ◌*◌, ◌/◌, ◌<◌}
use native.Mathlib.Numerals.{add-one}
use native.Mathlib.Omega.{arith}
use mathlib.Core.Path.{◌≡◌, sym, ap, ap₂, ◌∙◌}
use mathlib.Core.Bool.{Bool, true, false, ◌&&◌, ◌||◌, cond}
use mathlib.Core.List.{List}
use lib.ListN.{length, get_or}
use lib.Dec.{eqb, ltb}
use Rattle.bools.specs.Bools.{ltb_no}
use Rattle.fields.specs.Numbers.{Bytes}
use Rattle.words.specs.Words.{word_at}
use Rattle.sets.specs.Set.{has, one_set, set_with}
use Rattle.sets.specs.SetLaws.{has_none, has_or, has_one}
use Rattle.bitmaps.specs.Bit.{bit}
use Rattle.bitmaps.proofs.BitLaws.{or_false, below_more}
use Rattle.bitmaps.specs.Table.{line_size, line_bits, line_bit}
use Rattle.bitmaps.specs.Word.{block_rows, word_size, BlockAt}
use Rattle.bitmaps.proofs.WordLaws.{word_has}
use Rattle.gather.specs.Turns.{TurnsWhere, Added}

-- the bits of the word of predicate c: those of the block in its line; w is c at another width
pub word_bits : (table : List ℕ) {base c w word : ℕ} → Bytes table → BlockAt base → w ≡ c → word ≡ word_at table (w * line_size + base / 8) word_size
    → (d : ℕ) → d < block_rows → has word d ≡ line_bit table c (base + d)
word_bits table {base} {c} {w} b B w-is word-is d l =
    let z : (w * line_size + base / 8) * 8 + d ≡ c * line_bits + (base + d) = omega (arith, B.whole) in
    ap (λ (x : ℕ). has x d) word-is ∙ word_has table b (w * line_size + base / 8) d l ∙ ap (bit table) z

module _ {marked : (i d : ℕ) → Bool} {gathered : List ℕ} where
  pub turns_none : length gathered ≡ block_rows → ((d : ℕ) → get_or gathered d 0 ≡ 0) → TurnsWhere marked 0 gathered
  turns_none s z = record {
    size = s;
    sets = λ d i l. ap (λ (x : ℕ). has x i) (z d) ∙ has_none i ∙ sym (ap (λ (b : Bool). b && marked i d) (ltb_no i 0 (omega arith)));
  }

  -- turn i, whose rows are a word's; j is i at another width
  pub turn_added : (word : ℕ) {new : List ℕ} {i j : ℕ} → TurnsWhere marked i gathered → ((d : ℕ) → d < block_rows → has word d ≡ marked i d) → j ≡ i
      → Added word j gathered new → TurnsWhere marked (i + 1) new
  turn_added word {i = i} {j = j} T rows j-is A = record {
    size = A.size ∙ T.size;
    sets = λ d k l.
        ap (λ (x : ℕ). has x k) (A.each d) ∙ with_has (has word d) (get_or gathered d 0) k
        ∙ ap₂ (λ (p q : Bool). p || (q && eqb k i)) (T.sets d k l) (rows d l)
        ∙ below_more (λ k. marked k d) i k
        ∙ ap (λ (n : ℕ). ltb k n && marked k d) (sym (add-one i));
  }
    where
      with_has : (p : Bool) (x k : ℕ) → has (cond p (set_with x j) x) k ≡ (has x k || (p && eqb k i))
      with_has true x k = has_or x (one_set j) k ∙ ap (λ (q : Bool). has x k || q) (has_one j k ∙ ap (eqb k) j-is)
      with_has false x k = or_false (has x k)
