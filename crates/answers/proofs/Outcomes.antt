-- The number of an outcome has room in the word.
use Prim.Native.Nat.{◌≤◌}
use native.Mathlib.Omega.{arith}
use Rattle.predicate.specs.declared.outcome.Outcome.{Outcome}
use Rattle.predicate.specs.declared.outcome.Outcome.TheVariants.{No, Yes, Blank}
use Rattle.answers.specs.Answers.{outcome_number}

pub outcome_small : (a : Outcome) → outcome_number a ≤ 2
outcome_small No = omega arith
outcome_small Yes = omega arith
outcome_small Blank = omega arith
