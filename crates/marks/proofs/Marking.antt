-- A word put into a line of a table, and a predicate marked in a block.
use Prim.Native.Nat.{ℕ, ◌+◌, ◌*◌, ◌/◌, ◌≤◌, ◌<◌}
use native.Mathlib.Omega.{arith}
use mathlib.Core.Path.{◌≡◌, sym, ap, ◌∙◌}
use mathlib.Core.Bool.{true, false}
use mathlib.Core.Logic.{◌⊎◌, inl, inr}
use mathlib.Core.List.{List}
use lib.Dec.{ltb}
use lib.ListN.{length, replicate}
use Rattle.bools.specs.Bools.{which, same?, ltb_lt, ltb_le}
use Rattle.sets.specs.Set.{has}
use Rattle.bitmaps.specs.Bit.{bit}
use Rattle.bitmaps.specs.Table.{line_size, line_bits, line_bit}
use Rattle.bitmaps.proofs.TableLaws.{holds_none}
use Rattle.bitmaps.specs.Word.{block_rows, BlockAt, WordPut}
use Rattle.query.specs.Format.{predicate_limit}
use Rattle.marks.specs.Marks.{met_line, MarkReady, Marked, HasEmptyMarks}

-- the word at place `at`, that of line k in the block at `base`
module _ (k base at : ℕ) (place : at ≡ k * line_size + base / 8) (block : BlockAt base)
    {x : ℕ} {P P' : List ℕ} (M : WordPut P at x P') where
  line_here : (d : ℕ) → d < block_rows → line_bit P' k (base + d) ≡ has x d
  line_here d l =
      let p : at * 8 + d ≡ k * line_bits + (base + d) = omega (arith, block.whole) in
      sym (ap (bit P') p) ∙ M.here d l

  line_beside : (j e : ℕ) → e < line_bits → (j ≡ k → (e < base) ⊎ (base + block_rows ≤ e)) → line_bit P' j e ≡ line_bit P j e
  line_beside j e l w = M.elsewhere (j * line_bits + e) (go (same? j k) (which (ltb j k)))
    where
      at_side : j ≡ k → (e < base) ⊎ (base + block_rows ≤ e) → (j * line_bits + e < at * 8) ⊎ (at * 8 + block_rows ≤ j * line_bits + e)
      at_side q (inl v) = inl (omega (arith, block.whole))
      at_side q (inr v) = inr (omega (arith, block.whole))

      go : (j ≡ k) ⊎ (j ≡ k → ⊥) → (ltb j k ≡ true) ⊎ (ltb j k ≡ false) → (j * line_bits + e < at * 8) ⊎ (at * 8 + block_rows ≤ j * line_bits + e)
      go (inl q) v = at_side q (w q)
      go (inr ne) (inl v) = let m : j < k = ltb_lt j k v in inl (omega (arith, block.whole, block.inside))
      go (inr ne) (inr v) = let m : k ≤ j = ltb_le j k v in inr (omega (arith, block.whole, block.inside, ne))

module _ {c base at due : ℕ} {P Q : List ℕ} (place : at ≡ c * line_size + base / 8) (R : MarkReady c base P) (M : WordPut P at due Q) where
  -- a table with lines for the probes alone
  pub marked_probes : {met_at met : ℕ} → met_at ≡ at + predicate_limit * line_size → length Q ≤ met_at → Marked c base due met P Q
  marked_probes e h = record {
    size = M.size;
    bytes = M.bytes;
    probes = line_here c base at place R.block M;
    meets = λ m d l.
        (let s = R.table_lines.size in
        let z = M.size in
        let i = R.block.inside in
        absurd (omega arith));
    beside = λ k e l w. line_beside c base at place R.block M k e l (λ q. w (inl q));
  }

  -- and one with those for a yes
  pub marked_both : {met_at met : ℕ} {P' : List ℕ} → met_at ≡ at + predicate_limit * line_size → WordPut Q met_at met P' → Marked c base due met P P'
  marked_both {met_at} {met} {P'} e N = record {
    size = N.size ∙ M.size;
    bytes = λ h. N.bytes (M.bytes h);
    probes = λ d l.
        (let w = R.block.whole in
        let i = R.block.inside in
        met_beside c (base + d) (omega arith) (λ q. absurd (omega arith))
        ∙ line_here c base at place R.block M d l);
    meets = λ m. line_here (met_line c) base met_at met_place R.block N;
    beside = λ k e l w. met_beside k e l (λ q. w (inr q)) ∙ line_beside c base at place R.block M k e l (λ q. w (inl q));
  }
    where
      met_place : met_at ≡ met_line c * line_size + base / 8
      met_place = omega arith

      met_beside : (j e : ℕ) → e < line_bits → (j ≡ met_line c → (e < base) ⊎ (base + block_rows ≤ e)) → line_bit P' j e ≡ line_bit Q j e
      met_beside = line_beside (met_line c) base met_at met_place R.block N

-- a table of zeros, with as many lines as a table of marks may have
pub empty_marks : (lines : ℕ) → predicate_limit ≤ lines → lines ≤ 2 * predicate_limit → HasEmptyMarks (replicate (lines * line_size) 0)
empty_marks lines enough few = let h = holds_none lines in record {
  table_lines = record { lines = lines; size = h.size; enough = enough; few = few };
  no_bits = h;
}
