-- Every right strategy makes each of our probes, on every assignment: the sentence, proved in proofs/Optimality.antt.
use Rattle.std.specs.Prelude.{ℕ, ◌≡◌, List, ◌∷◌, ◌++◌}
use Rattle.strategy.specs.Assignment.{Assignment, Among, Once}
use Rattle.strategy.specs.Strategy.{Formula, Due, Strategy, predicates, probes, Right}
use Rattle.strategy.specs.Trace.{trace}

-- demand 3 on one assignment: `S` makes each of our probes
abbrev pub ProbesOurs : Formula → List ℕ → Strategy → Assignment → Type 0
ProbesOurs f order S a = (c : ℕ) → Among c (predicates (trace f a order)) → Among c (probes S a order)

-- the same as a plain sentence, with no test: on every assignment a right strategy probes whatever is due at its turn
abbrev pub Optimality : Type 0
Optimality =
    (f : Formula) (order : List ℕ) → Once order → (S : Strategy) → Right f order S → (a : Assignment)
    → (before : List ℕ) (c : ℕ) (later : List ℕ) → order ≡ before ++ (c ∷ later) → Due f c later a → Among c (probes S a order)
