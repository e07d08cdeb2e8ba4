-- `put_question` meets its contract. Invariant: the bytes passed are the question's, every other byte is the old one.
use Rattle.std.specs.Prelude.{◌≡◌}
use lib.Seq.{paste}
use Rattle.typed.proofs.put_question.Given as goal

abbrev pub invariant-loop-i : goal.invariant-loop-i
invariant-loop-i l = l.output ≡ paste l.initial.output 0 l.question l.i
