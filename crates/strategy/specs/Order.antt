-- The check of a running order.
use Rattle.std.specs.Prelude.{ℕ, zero, suc, ◌+◌, ◌<◌, Bool, true, ◌&&◌, ◌||◌, not, cond, List, [], ◌∷◌, eqb, ltb, length}
use Rattle.strategy.specs.Assignment.{Among, Once}

-- how often a number stands in a list
unfoldable pub occurrences : ℕ → List ℕ → ℕ
occurrences c [] = 0
occurrences c (d ∷ ds) = cond (eqb c d) 1 0 + occurrences c ds

-- does the test pass for every number below `n`
unfoldable pub all_below : ℕ → (ℕ → Bool) → Bool
all_below zero P = true
all_below (suc n) P = P n && all_below n P

-- document 01: a running order is n bytes holding each condition number once
unfoldable pub is_order : ℕ → List ℕ → Bool
is_order n order = eqb (length order) n && all_below n (λ c. eqb (occurrences c order) 1)

-- what that gives: no repeats, and exactly the numbers below `n`
pub record Order (n : ℕ) (order : List ℕ) : Type 0 where
  pub once : Once order
  pub inside : (d : ℕ) → Among d order → d < n
  pub every : (d : ℕ) → d < n → Among d order

-- a set with one number more
abbrev pub add : ℕ → (ℕ → Bool) → ℕ → Bool
add c set d = set d || eqb d c

-- the check by a set of the numbers already seen: each below `n` and new, and at the end all of them seen
unfoldable pub checks : ℕ → List ℕ → (ℕ → Bool) → Bool
checks n [] set = all_below n set
checks n (c ∷ cs) set = ltb c n && (not (set c) && checks n cs (add c set))
