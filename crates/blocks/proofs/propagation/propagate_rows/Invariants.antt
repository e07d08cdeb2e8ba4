-- `propagate_rows` meets its contract. Invariant: the ancestors left, propagated from here, give at every row what all give.
use Rattle.blocks.proofs.Propagating.{Propagating}
use Rattle.blocks.proofs.propagation.propagate_rows.Given as goal

abbrev pub invariant-loop-k : goal.invariant-loop-k
invariant-loop-k l = Propagating l.ancestors l.c l.k l.met l.due l.active l.initial.live l.live
