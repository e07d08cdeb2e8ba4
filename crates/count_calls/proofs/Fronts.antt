-- The front of a table is what the calls count of it.
use Prim.Native.Nat.{ℕ, ◌/◌, ◌^◌, ◌≤◌, ◌<◌, min}
use native.Mathlib.Omega.{arith}
use mathlib.Core.Path.{◌≡◌, sym, ap, ◌∙◌}
use mathlib.Core.Bool.{true, false}
use mathlib.Core.Logic.{◌⊎◌, inl, inr}
use mathlib.Core.List.{List}
use lib.ListN.{length, take, length-take}
use lib.Seq.{take_all, length-take-le}
use lib.Dec.{ltb}
use Rattle.bools.specs.Bools.{which, ltb_lt, ltb_le}
use Rattle.bitmaps.specs.Bitmap.{ones_in}
use Rattle.bitmaps.specs.Table.{line_size, lines_of}
use Rattle.count_calls.specs.Counted.{table_limit, counted, counted_lines}

module _ {end : ℕ} (t : List ℕ) (e : end ≡ min table_limit (length t)) where
  pub front_length : length (take end t) ≡ end
  front_length = length-take-le end t (omega arith)

  pub front_counted : take end t ≡ counted t
  front_counted = go (which (ltb (length t) table_limit))
    where
      go : (ltb (length t) table_limit ≡ true) ⊎ (ltb (length t) table_limit ≡ false) → take end t ≡ counted t
      go (inl y) =
          let l : length t < table_limit = ltb_lt (length t) table_limit y in
          take_all end t (omega arith) ∙ sym (take_all table_limit t (omega arith))
      go (inr y) =
          let l : table_limit ≤ length t = ltb_le (length t) table_limit y in
          let z : end ≡ table_limit = omega arith in
          ap (λ (k : ℕ). take k t) z

pub counted_small : {front : List ℕ} (t : List ℕ) → front ≡ counted t → length front < 2 ^ 61
counted_small t e = rw e (simp length-take (omega arith))

pub front_lines : {front : List ℕ} {n k r : ℕ} (t : List ℕ) (lines size : ℕ) → front ≡ counted t → n ≡ min (length front / line_size) lines → k ≡ min line_size size
    → r ≡ ones_in (lines_of k front n) → r ≡ ones_in (counted_lines t lines size)
front_lines t lines size e a b h = h ∙ rw (a, b, e)
