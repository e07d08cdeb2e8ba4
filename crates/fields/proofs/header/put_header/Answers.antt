-- `put_header` meets its contract: the piece that is written is the tag and the two bytes behind it.
use Rattle.fields.proofs.Laws.{be_two}
use Rattle.fields.proofs.OutputLaws.{wrote_same}
use Rattle.fields.specs.Numbers.{bytes_of}
use Rattle.std.proofs.Common.{ap, ◌∙◌, get_or}
use Rattle.std.specs.Prelude.{List, ℕ, [], ◌∷◌}
use Rattle.fields.proofs.header.put_header.Goals as goal

pub returns : goal.returns
unfolding bytes_of
returns c =
    let a = c.args in
    wrote_same (ap (λ (b : List ℕ). a.tag ∷ get_or b 0 0 ∷ get_or b 1 0 ∷ []) (c.to_be_bytes-length.ensures ∙ be_two a.size)) c.put.ensures
