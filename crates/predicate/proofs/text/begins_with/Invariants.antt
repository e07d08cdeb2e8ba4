-- `begins_with` meets its contract: as long as the bytes before i agree, the answer is that of the bytes from i on.
use Rattle.predicate.specs.Meaning.{begins_with}
use Rattle.std.specs.Prelude.{drop, ◌≡◌}
use Rattle.predicate.proofs.text.begins_with.Given as goal

abbrev pub invariant-loop-i : goal.invariant-loop-i
invariant-loop-i l = begins_with l.operand l.text ≡ begins_with (drop l.i l.operand) (drop l.i l.text)
