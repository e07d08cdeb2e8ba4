-- The machine reads exactly the spellings: a text gives a question's bytes if and only if it is the spelling of a tree that can be typed, and they are its bytes.
use Prim.Native.Nat.{ℕ}
use mathlib.Core.Path.{◌≡◌, sym, ap, ◌∙◌}
use mathlib.Core.Logic.{◌↔◌}
use mathlib.Core.List.{List}
use Rattle.query.specs.Encode.{encode}
use Rattle.strategy.specs.Tree.{Tree}
use Rattle.syntax.specs.Spelling.{spelling, Typable}
use Rattle.syntax.specs.Machine.{typed, question_of}
use Rattle.syntax.proofs.SpellingRead.{spelling_read}
use Rattle.syntax.proofs.ReadSpelling.{read_spelling}

pub typed_exactly : (tags text q : List ℕ) → (question_of tags text ≡ typed q) ↔ ((t : Tree (List ℕ)) × Typable tags t × (text ≡ spelling t) × (q ≡ encode t))
typed_exactly tags text q = (
  read_spelling tags text q,
  λ (t, y, s, w). ap (question_of tags) s ∙ spelling_read tags t y ∙ ap typed (sym w),
)
