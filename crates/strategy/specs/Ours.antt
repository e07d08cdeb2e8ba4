-- Ours as a strategy.
use Rattle.std.specs.Prelude.{ℕ, cond, List, [], ◌∷◌, eqb}
use Rattle.strategy.specs.Assignment.{Assignment, all_no, update}
use Rattle.strategy.specs.Strategy.{Formula, State, Strategy}
use Rattle.strategy.specs.Trace.{due}

-- `a` with the outcomes of a state put in
unfoldable pub recall : Assignment → State → Assignment
recall a [] = a
recall a (x ∷ s) = recall (update a x.0 x.1) s

-- what a state tells, each predicate that was passed or is still to come taken as no
abbrev pub passed_as_no : State → Assignment
passed_as_no s = recall all_no s

-- the predicates later than `c` in the order
unfoldable pub later_than : ℕ → List ℕ → List ℕ
later_than c [] = []
later_than c (d ∷ ds) = cond (eqb c d) ds (later_than c ds)

-- document 01: it takes each condition it has passed as no; it looks where the condition then alone decides the tree for
-- some outcomes of the later ones; its answer is the tree's value
unfoldable pub ours : Formula → List ℕ → Strategy
ours f order = record {
  probe = λ c s. due f c (later_than c order) (passed_as_no s);
  answer = λ s. f (passed_as_no s);
}
