-- Document 01's listed table and looks table, our selection bitmap and probe bitmaps, and the number of ones in a table.
use Rattle.std.specs.Prelude.{ℕ, ◌+◌, ◌*◌, ◌/◌, ◌^◌, Bool, ◌&&◌, List, [], ◌∷◌, ltb}
use Rattle.std.specs.Int.Count.{ones}
use Rattle.bitmaps.specs.Sums.{sum_of, joined, digit}

-- "ceiling(E / 8) bytes"
abbrev pub bytes_for : (rows : ℕ) → ℕ
bytes_for rows = (rows + 7) / 8

-- the number whose bit of weight 2 ^ j is b j, for j below the width
abbrev pub binary : (ℕ → Bool) → (width : ℕ) → ℕ
binary b width = sum_of (λ j. digit (b j) * 2 ^ j) width

-- "entry e is the bit of weight 2^(e mod 8) in byte e div 8, unused bits zero"
unfoldable pub bitmap : (ℕ → Bool) → (rows : ℕ) → List ℕ
bitmap f rows = joined (λ i. binary (λ j. ltb (i * 8 + j) rows && f (i * 8 + j)) 8 ∷ []) (bytes_for rows)

-- "one such row for each condition, in condition-number order"
unfoldable pub bitmaps : (ℕ → ℕ → Bool) → (n rows : ℕ) → List ℕ
bitmaps f n rows = joined (λ c. bitmap (f c) rows) n

-- "the number of ones" in a table: of each byte, summed
unfoldable pub ones_in : List ℕ → ℕ
ones_in [] = 0
ones_in (x ∷ xs) = ones x + ones_in xs
