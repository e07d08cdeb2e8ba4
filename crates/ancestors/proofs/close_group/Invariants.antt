-- `close_group` meets its contract. The invariant: the predicates from a up to c have their ancestor more, the others are as they were.
use Rattle.ancestors.specs.Ancestors.{Closed}
use Rattle.ancestors.proofs.close_group.Given as goal

abbrev pub invariant-loop-c : goal.invariant-loop-c
invariant-loop-c l = Closed l.a l.c l.m l.tag l.initial.ancestors l.ancestors
