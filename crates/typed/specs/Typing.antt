-- What a text that was read leaves, by the tags of the columns alone.
use Rattle.std.specs.Prelude.{List, ◌≡◌, ℕ}
use Rattle.catalogue.specs.Catalogue.{Catalogue}
use Rattle.predicate.specs.Payload.{tags_of}
use Rattle.syntax.specs.Machine.{Typed}
use Rattle.answers.specs.Written.{Written}
use Rattle.demands.specs.Typed.{text_typed}

-- the same for every catalogue whose columns have these tags
abbrev pub TypedFor : (tags : List ℕ) → Typed → (output : List ℕ) → Written → Type 0
TypedFor tags t output left = (C : Catalogue) → tags_of C ≡ tags → left ≡ text_typed C t output
