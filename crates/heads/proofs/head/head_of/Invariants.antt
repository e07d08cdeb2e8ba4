-- `head_of` meets its contract: the bytes put together, the last one first.
use Rattle.heads.proofs.Heads.{Heading}
use Rattle.heads.proofs.head.head_of.Given as goal

abbrev pub invariant-loop-j : goal.invariant-loop-j
invariant-loop-j l = Heading l.kind l.operand l.j l.left_open l.value
