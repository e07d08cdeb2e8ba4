-- Every right strategy makes each of our probes, on every assignment.
use Rattle.std.specs.Prelude.{ℕ, ◌≤◌, refl, List, [], length}
use Rattle.std.proofs.Common.{arith, sym, ◌∙◌, subst}
use Rattle.strategy.specs.Assignment.{Assignment, Among, Once, AgreeOff}
use Rattle.strategy.specs.Strategy.{Formula, Strategy, final_state, predicates, Right}
use Rattle.strategy.specs.Trace.{trace}
use Rattle.strategy.specs.Fixing.{RightFixing}
use Rattle.strategy.specs.Optimality.{ProbesOurs, Optimality}
use Rattle.strategy.proofs.Turns.{probed_from, counted_from}
use Rattle.strategy.proofs.TraceLaws.{trace_due}

-- THE THEOREM, in general (order 8 runs orders that leave predicates out): a strategy that is right wherever `fixed`'s outcomes off the order are kept makes each of our
-- probes there. The order has no repeats; nothing else is asked of the order or the formula.
pub optimal_fixing : (f : Formula) (order : List ℕ) → Once order → (S : Strategy) (fixed : Assignment) → RightFixing fixed f order S
    → (a : Assignment) → AgreeOff order a fixed → ProbesOurs f order S a
optimal_fixing f order o S fixed R a g = probed_from f S a order [] o (λ q h. R q (λ d n. h d n ∙ g d n))

-- and so at least as many
pub optimal_count_fixing : (f : Formula) (order : List ℕ) → Once order → (S : Strategy) (fixed : Assignment) → RightFixing fixed f order S
    → (a : Assignment) → AgreeOff order a fixed → length (trace f a order) ≤ length (final_state S a order)
optimal_count_fixing f order o S fixed R a g = omega (arith, counted_from f S a order [] o (λ q h. R q (λ d n. h d n ∙ g d n)))

-- DEMAND 3: a strategy that is right whatever the assignment makes, on every assignment, each probe that ours makes
pub optimal : (f : Formula) (order : List ℕ) → Once order → (S : Strategy) → Right f order S → (a : Assignment) → ProbesOurs f order S a
optimal f order o S R a = optimal_fixing f order o S a (λ q g. R q) a (λ d n. refl)

pub optimal_count : (f : Formula) (order : List ℕ) → Once order → (S : Strategy) → Right f order S
    → (a : Assignment) → length (trace f a order) ≤ length (final_state S a order)
optimal_count f order o S R a = optimal_count_fixing f order o S a (λ q g. R q) a (λ d n. refl)

pub optimality : Optimality
optimality f order o S R a before c later e D =
    optimal f order o S R a c (subst (λ (l : List ℕ). Among c (predicates (trace f a l))) (sym e)
    ((trace_due f a before c later (subst Once e o)).1 D))
