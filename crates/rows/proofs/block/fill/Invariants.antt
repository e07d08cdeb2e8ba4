-- `fill` meets its contract. Invariant: the predicates of start that are not to come any more are live.
use Rattle.sets.specs.Changed.{Changing}
use Rattle.rows.proofs.block.fill.Given as goal

abbrev pub invariant-loop-c : goal.invariant-loop-c
invariant-loop-c l = Changing (λ word. l.rows) l.start l.c-iterator.0 l.initial.live l.live
