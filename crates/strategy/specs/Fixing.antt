-- Orders that leave predicates out (order 8 runs such): what the laws ask of a formula and of a strategy then.
use Rattle.std.specs.Prelude.{◌≡◌, ℕ, List}
use Rattle.strategy.specs.Assignment.{Assignment, AgreeOn, AgreeOff}
use Rattle.strategy.specs.Strategy.{Formula, Strategy, answer_of}

-- the formula's value hangs on the order's predicates alone
abbrev pub ReadsOnly : Formula → List ℕ → Type 0
ReadsOnly f order = (q r : Assignment) → AgreeOn order q r → f q ≡ f r

-- right on the assignments that have `fixed`'s outcomes off the order
abbrev pub RightFixing : Assignment → Formula → List ℕ → Strategy → Type 0
RightFixing fixed f order S = (a : Assignment) → AgreeOff order a fixed → answer_of S a order ≡ f a
