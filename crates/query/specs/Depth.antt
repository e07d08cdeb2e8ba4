-- How deep groups nest: "Groups may nest 8 deep, the outermost being 1".
use Rattle.std.specs.Prelude.{ℕ, ◌+◌, max}
use Rattle.strategy.specs.Tree.{Tree, leaf, group, Forest, none, more}

unfoldable mutual
  pub depth : {A : Type 0} → Tree A → ℕ
  depth (leaf x) = 0
  depth (group k f) = 1 + depths f

  pub depths : {A : Type 0} → Forest A → ℕ
  depths none = 0
  depths (more t f) = max (depth t) (depths f)
