-- Open groups as they stand in the output, the outermost first: of each its tag, where the enclosing group's length stands in place of its own, and the
-- bytes of its members so far.
use Rattle.std.specs.Prelude.{ℕ, ◌+◌, List, [], ◌∷◌, ◌++◌, length}
use Rattle.fields.specs.Header.{header_of}
use Rattle.query.specs.Encode.{group_tag}
use Rattle.syntax.specs.Machine.{Frame}

unfoldable mutual
  pub flat : List Frame → List ℕ
  flat [] = []
  flat (f ∷ s) = flat s ++ (header_of (group_tag f.settling) (open_at s) ++ f.done)

  -- where the length of the innermost one stands, 0 where none is open
  pub open_at : List Frame → ℕ
  open_at [] = 0
  open_at (f ∷ s) = length (flat s) + 1
