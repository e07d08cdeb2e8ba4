-- `same_bytes` meets its contract: as long as the bytes before i agree, the answer is that of the bytes from i on.
use Rattle.predicate.specs.Meaning.{same}
use Rattle.std.specs.Prelude.{drop, length, ◌-◌, ◌≡◌, ◌≤◌}
use Rattle.members.proofs.repeated.same_bytes.Given as goal

abbrev pub invariant-loop-i : goal.invariant-loop-i
invariant-loop-i l = (l.i ≤ length l.a) × (length l.a ≡ length l.b) × (same l.a l.b ≡ same (drop l.i l.a) (drop l.i l.b))

abbrev pub decreases-loop-i : goal.decreases-loop-i
decreases-loop-i l = length l.a - l.i

abbrev pub invariant-loop-i-2 : goal.invariant-loop-i-2
invariant-loop-i-2 l = (l.i ≤ length l.a) × (length l.a ≡ length l.b) × (same l.a l.b ≡ same (drop l.i l.a) (drop l.i l.b))

abbrev pub decreases-loop-i-2 : goal.decreases-loop-i-2
decreases-loop-i-2 l = length l.a - l.i
