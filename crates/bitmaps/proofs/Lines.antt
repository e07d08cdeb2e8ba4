-- Copying: lines put one after the other at the front of a table.
use Prim.Native.Nat.{ℕ, ◌+◌, ◌-◌, ◌*◌, ◌≤◌, ◌<◌}
use native.Mathlib.Nat.{zero-add, suc-mul, mul-le-mul_right}
use native.Mathlib.Numerals.{add-one}
use native.Mathlib.Omega.{arith}
use mathlib.Core.Path.{◌≡◌, ◌∙◌}
use mathlib.Core.List.{List}
use lib.ListN.{length, take, drop, length-take, length-drop}
use lib.Seq.{length-take-le}
use Rattle.bitmaps.specs.Sums.{joined}
use Rattle.fields.specs.Output.{Wrote}
use Rattle.fields.proofs.OutputLaws.{wrote_then}
use Rattle.bitmaps.specs.Table.{line_size, lines_of}
use Rattle.bitmaps.proofs.SumLaws.{joined_length}

lines_length : (size : ℕ) (from : List ℕ) (n : ℕ) → size ≤ line_size → n * line_size ≤ length from → length (lines_of size from n) ≡ n * size
unfolding lines_of
lines_length size from n s h =
    joined_length (λ c. take size (drop (c * line_size) from)) size n
    (λ c l. length-take-le size (drop (c * line_size) from) (simp length-drop (omega (arith, h, mul-le-mul_right line_size l, suc-mul c line_size))))

pub line_fits : (size n c : ℕ) → c < n → c * size + size ≤ n * size
line_fits size n c l = omega (arith, mul-le-mul_right size l)

-- line c, written behind the lines before it
module _ (size n c : ℕ) (from old : List ℕ) (s : size ≤ line_size) (h : n * line_size ≤ length from) (m : n * size ≤ length old) (l : c < n) where
  pub line_behind : {line at next : ℕ} {to new : List ℕ} → line ≡ c * line_size → at ≡ c * size → Wrote 0 (lines_of size from c) old at to
      → Wrote at (take (line + size - line) (drop line from)) to next new → Wrote 0 (lines_of size from (c + 1)) old next new
  unfolding lines_of joined
  line_behind {line} e f w v =
      let z : line + size - line ≡ size = omega arith in
      rw (add-one c) (wrote_then (omega (arith, line_fits size n c l)) w (rw (z, e) at v))

  pub place_behind : {next : ℕ} {new : List ℕ} → Wrote 0 (lines_of size from (c + 1)) old next new → next ≡ (c + 1) * size
  place_behind w = w.place ∙ zero-add (length (lines_of size from (c + 1))) ∙ lines_length size from (c + 1) s (omega arith)

pub part_length : (from : List ℕ) (line size : ℕ) → line + size ≤ length from → length (take (line + size - line) (drop line from)) ≡ size
part_length from line size l = simp (length-take, length-drop) (omega arith)
