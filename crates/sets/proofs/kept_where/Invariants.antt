-- `kept_where` meets its contract: whatever P says of the answers, what was met, with what is left, is what P keeps.
use Rattle.std.proofs.Common.{ℕ, ◌≡◌, Bool, true}
use Rattle.sets.specs.Set.{has}
use Rattle.sets.specs.Kept.{Answers, Sorting}
use Rattle.sets.proofs.kept_where.Given as goal

abbrev pub invariant-loop-left : goal.invariant-loop-left
invariant-loop-left g l = record {
  within : (d : ℕ) → has l.left d ≡ true → has l.x d ≡ true;
  sorts : (P : ℕ → Bool) → Answers (goal.F-post g l.test) l.x P → Sorting P l.x l.left l.met;
}

abbrev pub decreases-loop-left : goal.decreases-loop-left
decreases-loop-left g l = l.left
