-- `last_with_head` meets its contract: none of the predicates from the place on has the head.
use Rattle.members.specs.Heads.{OtherHeads}
use Rattle.members.proofs.repeated.last_with_head.Given as goal

abbrev pub invariant-loop-c : goal.invariant-loop-c
invariant-loop-c l = OtherHeads l.h l.earlier.q.now l.earlier.offsets.now l.c l.n
