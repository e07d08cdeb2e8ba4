-- A row's number in the bytes is that of the column.
use Rattle.std.proofs.Common.{◌≡◌, ℕ, List, sym, refl, ◌∙◌, arith}
use Rattle.catalogue.specs.Format.{number_tag, text_tag}
use Rattle.catalogue.specs.Catalogue.{numbers, texts}
use Rattle.catalogue.specs.InPlace.{HasRow, NumberIs}
use Rattle.catalogue.proofs.Rows.{number_is}
use Rattle.numbers.specs.Within.{number_in_row}

pub number_value : (b : List ℕ) (start row : ℕ) → HasRow b number_tag start row → (n : ℕ) → NumberIs b start row n → n ≡ number_in_row b start row
number_value b start row (rows, numbers ns, s, l) n value = value rows ns s l ∙ sym (number_is b start row (number_in_row b start row) refl rows ns s l)
number_value b start row (rows, texts ts, s, l) n value = let z : number_tag ≡ text_tag = s.0 in absurd (omega arith)
