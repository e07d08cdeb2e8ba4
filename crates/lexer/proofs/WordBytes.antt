-- A word compared with the front of a text: std's `starts_with` and what `strip` takes.
use Prim.Native.Nat.{ℕ, ◌+◌, ◌-◌}
use mathlib.Core.Path.{◌≡◌, refl, sym, ap, ◌∙◌}
use mathlib.Core.Bool.{Bool, true, false, ◌&&◌, cond}
use mathlib.Core.List.{List, [], ◌∷◌}
use lib.ListN.{length, take, drop}
use lib.Dec.{eqb}
use Rattle.std.specs.List.{starts_with}
use Rattle.std.proofs.lemmas.List.{drop-drop, take_rest}
use Rattle.syntax.specs.Parsed.{Stripped, absent, stripped, strip}

both : (here behind : Bool) (s : Stripped) → cond here (cond behind s absent) absent ≡ cond (here && behind) s absent
both true behind s = refl
both false behind s = refl

front_strip : (w text : List ℕ) → strip w text ≡ cond (starts_with eqb text w) (stripped (drop (length w) text)) absent
unfolding strip
front_strip [] text = refl
front_strip (x ∷ w) [] = refl
front_strip (x ∷ w) (y ∷ text) =
    ap (λ (s : Stripped). cond (eqb x y) s absent) (front_strip w text) ∙ both (eqb x y) (starts_with eqb text w) (stripped (drop (length w) text))

-- from a place on, where a slice of the text is seen as all that is left of its rest there
pub word_strip : (w text : List ℕ) (at : ℕ) {found : Bool} → found ≡ starts_with eqb (take (length text - at) (drop at text)) w
    → strip w (drop at text) ≡ cond found (stripped (drop (at + length w) text)) absent
word_strip w text at {found} e =
    let rest : found ≡ starts_with eqb (drop at text) w = e ∙ ap (λ (t : List ℕ). starts_with eqb t w) (take_rest text at) in
    front_strip w (drop at text)
    ∙ ap (λ (t : List ℕ). cond (starts_with eqb (drop at text) w) (stripped t) absent) (drop-drop (length w) at text)
    ∙ ap (λ (b : Bool). cond b (stripped (drop (at + length w) text)) absent) (sym rest)
