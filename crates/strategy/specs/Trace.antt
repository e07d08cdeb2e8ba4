-- Due as a test, and the trace of a row: what is due on it, with the outcomes.
use Rattle.std.specs.Prelude.{ℕ, Bool, true, false, ◌||◌, List, [], ◌∷◌}
use Rattle.std.specs.Bool.{xor}
use Rattle.strategy.specs.Assignment.{Assignment, update, keep_if}
use Rattle.strategy.specs.Strategy.{Formula, State}

-- `c` alone decides: its yes and its no give different values, the others keeping their outcomes
unfoldable pub decides : Formula → ℕ → Assignment → Bool
decides f c q = xor (f (update q c true)) (f (update q c false))

-- does the test pass for some outcomes of the listed predicates
unfoldable pub some_outcomes : List ℕ → (Assignment → Bool) → Assignment → Bool
some_outcomes [] P a = P a
some_outcomes (c ∷ cs) P a = some_outcomes cs P (update a c true) || some_outcomes cs P (update a c false)

-- `Due` as a test; `due_law` says that they are the same
unfoldable pub due : Formula → ℕ → List ℕ → Assignment → Bool
due f c later a = some_outcomes later (decides f c) a

-- demand 2's looks on a row: the predicates that are due at their turns, with their outcomes, in the order's sequence
unfoldable pub trace : Formula → Assignment → List ℕ → State
trace f a [] = []
trace f a (c ∷ cs) = keep_if (due f c cs a) (c, a c) (trace f a cs)
