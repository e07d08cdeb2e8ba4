-- What may stand behind a member.
use Prim.Native.Nat.{ℕ}
use mathlib.Core.Path.{◌≡◌}
use mathlib.Core.Logic.{◌⊎◌}
use mathlib.Core.List.{List, [], ◌∷◌}
use Rattle.syntax.specs.Spelling.{comma, closing}

-- nothing, a comma or a closing bracket
abbrev pub Follows : List ℕ → Type 0
Follows [] = Unit {0}
Follows (x ∷ rest) = (x ≡ comma) ⊎ (x ≡ closing)
