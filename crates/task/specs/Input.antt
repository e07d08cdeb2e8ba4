-- A catalogue and a question decoded together: what every call on a question begins with.
use Rattle.std.specs.Prelude.{ℕ, List}
use Rattle.fields.specs.Decoded.{Decoded, mapped, and_then}
use Rattle.catalogue.specs.Catalogue.{Catalogue}
use Rattle.catalogue.specs.Decode.{decode_catalogue}
use Rattle.query.specs.Query.{Query}
use Rattle.query.specs.Decode.{decode_query}

pub record Input : Type 0 where
  pub catalogue : Catalogue
  pub query : Query

abbrev pub with_query : Catalogue → Decoded Query → Decoded Input
with_query C d = mapped (λ Q. record { catalogue = C; query = Q }) d

-- "Checking a question first gives 1 to 6 for the catalogue, then walks the question."; order 6's 23 is with 1 to 6
unfoldable pub decode_input : (catalogue question : List ℕ) → Decoded Input
decode_input b q = and_then (decode_catalogue b) (λ C. with_query C (decode_query C q))
