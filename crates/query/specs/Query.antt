-- A query as values: document 01's question.
use Rattle.std.specs.Prelude.{ℕ, List}
use Rattle.strategy.specs.Tree.{Tree}
use Rattle.predicate.specs.Meaning.{Predicate}

-- the leaves of the tree are the numbers of the predicates, "numbered from 0 as they stand"
pub record Query : Type 0 where
  pub tree : Tree ℕ
  pub predicates : List Predicate
