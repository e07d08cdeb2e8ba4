-- The filter of contains: two bytes of the operand at their distance, anywhere in the slot.
use Rattle.std.specs.Prelude.{ℕ, ◌+◌, ◌-◌, ◌≤◌, ◌<◌, ◌≡◌, Bool, ◌&&◌, ◌||◌, List, length, get_or}
use Rattle.predicate.specs.Meaning.{fold}
use Rattle.filters.specs.declared.pair.Pair.{Pair}
use Rattle.filters.specs.Some.{some_below}
use Rattle.heads.specs.ByteTest.{test_passes, is_loose, tight_test}

-- places of a pair: the second not before the first, and at most eight further
pub record InReach (size i j : ℕ) : Type 0 where
  pub after : i ≤ j
  pub inside : j < size
  pub near : j ≤ i + 8

-- two bytes of the operand at their distance
abbrev pub pair_as : (o : List ℕ) → (i j : ℕ) → Pair
pair_as o i j = record { gap = j - i; first = tight_test (fold (get_or o i 0)); second = tight_test (fold (get_or o j 0)); loose = is_loose (fold (get_or o i 0)) || is_loose (fold (get_or o j 0)) }

-- a pair of the operand, wherever it is taken
pub record PairFor (o : List ℕ) (k : Pair) : Type 0 where
  pub first_place : ℕ
  pub second_place : ℕ
  pub reach : InReach (length o) first_place second_place
  pub pair_is : k ≡ pair_as o first_place second_place

abbrev pub pair_at : List ℕ → (p q : ℕ) → Pair → Bool
pair_at b p q k = test_passes k.first (get_or b p 0) && test_passes k.second (get_or b q 0)

-- place i of the window that begins with the slot at p, and of that which ends with it
abbrev pub in_first : List ℕ → (p : ℕ) → Pair → (i : ℕ) → Bool
in_first b p k i = pair_at b (p + i) (p + k.gap + i) k

abbrev pub in_second : List ℕ → (p : ℕ) → Pair → (i : ℕ) → Bool
in_second b p k i = pair_at b (p + 8 - k.gap + i) (p + 8 + i) k

-- contains: in the 16 places from the slot's first byte on, or in the last 16 that the pair has in it
abbrev pub windows_pass : List ℕ → (p : ℕ) → Pair → Bool
windows_pass b p k = some_below (in_first b p k) 16 || some_below (in_second b p k) 16
