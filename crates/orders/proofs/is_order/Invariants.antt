-- `orders::is_order`: the loop's invariant is `Checked`, what is checked and what is left; each path is one of its laws.
use Rattle.orders.specs.OrderSet.{Checked}
use Rattle.orders.proofs.is_order.Given as goal

abbrev pub invariant-loop-c : goal.invariant-loop-c
invariant-loop-c l = Checked l.n l.order l.c-index l.seen
