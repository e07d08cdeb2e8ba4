-- `half_where` meets its contract: at d, the numbers below d are gathered, whatever P says of the answers.
use Rattle.std.proofs.Common.{ℕ, ◌≡◌, ◌+◌, ◌<◌, Bool}
use Rattle.sets.specs.Gathered.{gathered}
use Rattle.sets.proofs.half_where.Given as goal

abbrev pub invariant-loop-d : goal.invariant-loop-d
invariant-loop-d g l =
    (P : ℕ → Bool) → ((d : ℕ) (p : Bool) → d < 32 → goal.F-post g l.test (l.from + d) p → p ≡ P (l.from + d)) → l.met ≡ gathered (λ d. P (l.from + d)) l.d
