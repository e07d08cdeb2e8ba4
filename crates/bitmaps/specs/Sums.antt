-- Sums, counts and joined lists over the numbers below a bound.
use Rattle.std.specs.Prelude.{ℕ, zero, suc, ◌+◌, Bool, true, false, List, [], ◌++◌}

-- g 0 + .. + g (n - 1)
unfoldable pub sum_of : (ℕ → ℕ) → (n : ℕ) → ℕ
sum_of g zero = 0
sum_of g (suc n) = sum_of g n + g n

-- g 0 ++ .. ++ g (n - 1)
unfoldable pub joined : (ℕ → List ℕ) → (n : ℕ) → List ℕ
joined g zero = []
joined g (suc n) = joined g n ++ g n

abbrev pub digit : Bool → ℕ
digit true = 1
digit false = 0

-- how many of the numbers below n hold
abbrev pub count_of : (ℕ → Bool) → (n : ℕ) → ℕ
count_of f n = sum_of (λ e. digit (f e)) n
