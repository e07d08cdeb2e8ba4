-- `all_in_turn` meets its contract: at d, the numbers from d on are gathered, whatever P says of the answers.
use Rattle.std.proofs.Common.{ℕ, ◌-◌, ◌^◌, ◌<◌, ◌≡◌, Bool}
use Rattle.sets.proofs.Loops.{Gathering}
use Rattle.sets.proofs.all_in_turn.Given as goal

abbrev pub invariant-loop-d : goal.invariant-loop-d
invariant-loop-d g l =
    (l.met < 2 ^ (64 - l.d)) × ((P : ℕ → Bool) → ((d : ℕ) (p : Bool) → d < 64 → goal.F-post g l.test d p → p ≡ P d) → Gathering P l.d l.met)
