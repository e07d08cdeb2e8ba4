-- Ours, for a query's tree and an accepted order.
use Rattle.std.specs.Prelude.{ℕ, ◌≡◌, true, List}
use Rattle.std.proofs.Common.{arith}
use Rattle.strategy.specs.Assignment.{Assignment}
use Rattle.strategy.specs.Strategy.{final_state, Right}
use Rattle.strategy.specs.Trace.{trace}
use Rattle.strategy.specs.Fixing.{ReadsOnly}
use Rattle.strategy.specs.Ours.{ours}
use Rattle.strategy.proofs.OursLaws.{ours_trace, ours_right}
use Rattle.strategy.specs.Tree.{Tree, eval, size, Numbered}
use Rattle.strategy.proofs.TreeLaws.{eval_span}
use Rattle.strategy.specs.Order.{is_order, Order}
use Rattle.strategy.proofs.OrderLaws.{order_law}

module _ (t : Tree ℕ) (n : Numbered t 0) (order : List ℕ) (accepted : is_order (size t) order ≡ true) where
  held : Order (size t) order
  held = (order_law (size t) order).0 accepted

  -- the tree's value hangs on the predicates of its order
  pub query_reads : ReadsOnly (eval t) order
  query_reads q r g = eval_span t 0 n q r (λ d j. g d (held.every d (omega arith)))

  -- ours is a strategy: its probes are those of demand 2
  pub query_ours : (a : Assignment) → final_state (ours (eval t) order) a order ≡ trace (eval t) a order
  query_ours = ours_trace (eval t) order held.once query_reads

  -- and right whatever the assignment
  pub query_right : Right (eval t) order (ours (eval t) order)
  query_right = ours_right (eval t) order held.once query_reads
