-- A row's text in the bytes is that of the column.
use Prim.Native.Nat.{ℕ, ◌+◌, ◌-◌, ◌<◌}
use native.Mathlib.Omega.{arith}
use mathlib.Core.Path.{◌≡◌, refl, sym, ap, ◌∙◌}
use mathlib.Core.List.{List, []}
use lib.ListN.{get_or, take, drop}
use Rattle.catalogue.specs.Format.{number_tag, text_tag}
use Rattle.catalogue.specs.Catalogue.{numbers, texts}
use Rattle.catalogue.specs.InPlace.{Shows, HasRow, TextIs}
use Rattle.catalogue.proofs.Rows.{text_is}
use Rattle.slots.specs.Slots.{text_at}
use Rattle.heads.specs.Block.{slot_of, text_of}

pub text_shown : (b : List ℕ) (start row rows : ℕ) (ts : List (List ℕ)) → Shows b rows text_tag start (texts ts) → row < rows → text_of b start row ≡ get_or ts row []
unfolding text_at
text_shown b start row rows ts s l =
    let at = slot_of start row in
    let n : get_or b at 0 ≡ at + 1 + get_or b at 0 - (at + 1) = omega arith in
    ap (λ (k : ℕ). take k (drop (at + 1) b)) n ∙ text_is b start row at (get_or b at 0) refl refl rows ts s l

module _ (b : List ℕ) (start row : ℕ) where
  pub text_value : HasRow b text_tag start row → (t : List ℕ) → TextIs b start row t → t ≡ text_of b start row
  text_value (rows, numbers ns, s, l) t value = let z : text_tag ≡ number_tag = s.0 in absurd (omega arith)
  text_value (rows, texts ts, s, l) t value = value rows ts s l ∙ sym (text_shown b start row rows ts s l)
