-- What was parsed in two steps: the first gave something, and the second went on from there. A word that was taken stood at the front.
use Prim.Native.Nat.{ℕ}
use native.Mathlib.Omega.{arith}
use mathlib.Core.Path.{◌≡◌, refl, sym, ap₂}
use mathlib.Core.Bool.{Bool, true, false, cond}
use mathlib.Core.List.{List, [], ◌∷◌, ◌++◌}
use lib.Dec.{eqb}
use Rattle.bools.specs.Bools.{eqb_eq}
use Rattle.syntax.specs.Parsed.{Parsed, wrong, parsed, parsed_then, Stripped, absent, stripped, strip, stripped_then}

pub parsed_parts : {A B : Type 0} (p : Parsed A) (next : A → List ℕ → Parsed B) (y : B) (rest : List ℕ) → parsed_then p next ≡ parsed y rest
    → (x : A) × (r : List ℕ) × (p ≡ parsed x r) × (next x r ≡ parsed y rest)
parsed_parts wrong next y rest h = let z : ◌≡◌ {A = ℕ} 0 1 = cc in absurd (omega arith)
parsed_parts (parsed x r) next y rest h = (x, r, refl, h)

pub stripped_parts : {A : Type 0} (s : Stripped) (next : List ℕ → Parsed A) (y : A) (rest : List ℕ) → stripped_then s next wrong ≡ parsed y rest
    → (r : List ℕ) × (s ≡ stripped r) × (next r ≡ parsed y rest)
stripped_parts absent next y rest h = let z : ◌≡◌ {A = ℕ} 0 1 = cc in absurd (omega arith)
stripped_parts (stripped r) next y rest h = (r, refl, h)

pub strip_sound : (w t r : List ℕ) → strip w t ≡ stripped r → t ≡ w ++ r
unfolding strip
strip_sound [] t r h = let z : t ≡ r = cc in z
strip_sound (x ∷ w) [] r h = let z : ◌≡◌ {A = ℕ} 0 1 = cc in absurd (omega arith)
strip_sound (x ∷ w) (y ∷ t) r h = go (eqb x y) refl h (λ g. strip_sound w t r g)
  where
    go : (b : Bool) → eqb x y ≡ b → cond b (strip w t) absent ≡ stripped r → (strip w t ≡ stripped r → t ≡ w ++ r) → (y ∷ t) ≡ (x ∷ (w ++ r))
    go true e g ih = ap₂ (λ (a : ℕ) (l : List ℕ). a ∷ l) (sym (eqb_eq x y e)) (ih g)
    go false e g ih = let z : ◌≡◌ {A = ℕ} 0 1 = cc in absurd (omega arith)
