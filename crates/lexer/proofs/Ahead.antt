-- What stands at a place of a text, and the rest behind it.
use Prim.Native.Nat.{ℕ, ◌+◌, ◌<◌}
use mathlib.Core.Path.{◌≡◌, sym, ap₂, ◌∙◌}
use mathlib.Core.List.{List, ◌∷◌}
use lib.ListN.{length, get_or, drop}
use Rattle.std.proofs.lemmas.List.{drop_more}

pub ahead : (text : List ℕ) (at : ℕ) → at < length text → {x next : ℕ} → x ≡ get_or text at 0 → next ≡ at + 1 → drop at text ≡ x ∷ drop next text
ahead text at l e f = drop_more text at 0 l ∙ ap₂ (λ (y k : ℕ). y ∷ drop k text) (sym e) (sym f)
