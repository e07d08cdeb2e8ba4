-- What a run has prepared before its first block: slices that show one task.
use Rattle.std.specs.Prelude.{ℕ, ◌≤◌, ◌<◌, ◌≡◌, true, List, length}
use Rattle.catalogue.specs.Format.{row_limit}
use Rattle.strategy.specs.Tree.{size, Numbered, NonEmpty}
use Rattle.strategy.specs.Order.{is_order}
use Rattle.strategy.specs.Propagation.{enclosing}
use Rattle.query.specs.Format.{predicate_limit}
use Rattle.ancestors.specs.Ancestors.{ancestors_size, ancestors_of, Low, Spans}
use Rattle.plan.specs.declared.table.Access.{Access}
use Rattle.plan.specs.Plan.{access_at}
use Rattle.access.specs.Access.{Accessed}
use Rattle.task.specs.Task.{Task, predicate_at, turns_of}

-- the slices that a run reads
pub record Slices : Type 0 where
  pub catalogue : List ℕ
  pub question : List ℕ
  pub turns : List ℕ
  pub plan : List Access
  pub ancestors : List ℕ

abbrev pub slices : (catalogue question turns : List ℕ) → (plan : List Access) → (ancestors : List ℕ) → Slices
slices b q turns P A = record { catalogue = b; question = q; turns = turns; plan = P; ancestors = A }

-- they show the task, whose query has n predicates
pub record Ready (G : Slices) (n : ℕ) (T : Task) : Type 0 where
  pub short : T.catalogue.rows ≤ row_limit
  pub few : n ≤ predicate_limit
  pub turns : G.turns ≡ turns_of T
  pub ordered : is_order n G.turns ≡ true
  pub accessed : (c : ℕ) → c < n → Accessed G.catalogue G.question T.catalogue (predicate_at T.query c) (access_at G.plan c)
  pub ancestors_size_lem : length G.ancestors ≡ ancestors_size
  pub low : Low n G.ancestors
  pub spans : Spans n G.ancestors
  pub ancestors : (c : ℕ) → c < n → ancestors_of G.ancestors c ≡ enclosing T.query.tree 0 c
  pub leaves : size T.query.tree ≡ n
  pub numbered : Numbered T.query.tree 0
  pub full : NonEmpty T.query.tree
