-- Propagation: what a probe leaves live, its outcome taken outward through the groups around its predicate, the innermost first.
use Rattle.std.specs.Prelude.{ℕ, ◌+◌, Bool, cond, List, [], ◌∷◌, ◌++◌, ltb}
use Rattle.strategy.specs.Tree.{Tree, leaf, group, Forest, none, more, size, sizes}
use Rattle.strategy.specs.Live.{Step, through}

-- a group around a predicate, as the engine holds it: the outcome that settles it, and its span of numbers
pub record Ancestor : Type 0 where
  pub settling : Bool
  pub first : ℕ
  pub count : ℕ

-- the groups around `c`, the innermost first, in a tree whose numbers begin with `i`
unfoldable mutual
  pub enclosing : Tree ℕ → ℕ → ℕ → List Ancestor
  enclosing (leaf d) i c = []
  enclosing (group k f) i c = enclosing_in f i c ++ (record { settling = k; first = i; count = sizes f } ∷ [])

  pub enclosing_in : Forest ℕ → ℕ → ℕ → List Ancestor
  enclosing_in none i c = []
  enclosing_in (more t f) i c = cond (ltb c (i + size t)) (enclosing t i c) (enclosing_in f (i + size t) c)

-- outward from group to group
unfoldable pub propagate : Bool → List Ancestor → Step → Step
propagate v [] s = s
propagate v (g ∷ gs) s = propagate v gs (through g.settling v g.first g.count s)
