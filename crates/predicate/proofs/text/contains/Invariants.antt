-- `contains` meets its contract: where no place before a has the operand, the answer is that of the places from a on.
use Rattle.predicate.specs.Meaning.{contains}
use Rattle.std.specs.Prelude.{drop, ◌≡◌}
use Rattle.predicate.proofs.text.contains.Given as goal

abbrev pub invariant-loop-a : goal.invariant-loop-a
invariant-loop-a l = contains l.operand l.text ≡ contains l.operand (drop l.a l.text)
