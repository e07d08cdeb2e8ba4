-- The tests of a text, one byte and one starting place after the other.
use Prim.Native.Nat.{ℕ, suc, ◌+◌, ◌-◌, ◌≤◌, ◌<◌}
use native.Mathlib.Numerals.{add-one}
use native.Mathlib.Omega.{arith}
use mathlib.Core.Path.{◌≡◌, refl, sym, ap, ◌∙◌}
use mathlib.Core.Bool.{Bool, true, false, ◌&&◌, ◌||◌, and-false}
use mathlib.Core.List.{List, [], ◌∷◌}
use lib.ListN.{length, get_or, take, drop, length-drop, drop_of_length-le}
use lib.Seq.{drop-cons}
use lib.Dec.{eqb}
use borrow.Author.Tests.{eq-eqb, ne_eqb}
use Rattle.fields.proofs.Parts.{part_rest}
use Rattle.predicate.specs.Meaning.{fold, folded, same, begins, occurs, equals, begins_with, contains}

pub folded_length : (x : List ℕ) → length (folded x) ≡ length x
unfolding folded
folded_length [] = refl
folded_length (a ∷ x) = ap suc (folded_length x)

-- no text begins with a longer operand, or contains it

begins_longer : (o t : List ℕ) → length t < length o → begins o t ≡ false
unfolding begins
begins_longer [] t h = absurd (omega arith)
begins_longer (x ∷ o) [] h = refl
begins_longer (x ∷ o) (y ∷ t) h = ap (◌&&◌ (eqb x y)) (begins_longer o t (omega arith)) ∙ and-false (eqb x y)

occurs_longer : (o t : List ℕ) → length t < length o → occurs o t ≡ false
unfolding occurs
occurs_longer o [] h = refl
occurs_longer o (y ∷ t) h = rw (begins_longer o (y ∷ t) h) (occurs_longer o t (omega arith))

pub begins_with_longer : (o t : List ℕ) → length t < length o → false ≡ begins_with o t
begins_with_longer o t h = sym (begins_longer (folded o) (folded t) (rw (folded_length t, folded_length o) h))

-- a loop over the operand's bytes: what is left to compare from place i on

module _ (o t : List ℕ) (i : ℕ) (so_far : begins_with o t ≡ begins_with (drop i o) (drop i t)) where
  begins_step : i < length o → i < length t →
      begins_with o t ≡ (eqb (fold (get_or o i 0)) (fold (get_or t i 0)) && begins_with (drop (i + 1) o) (drop (i + 1) t))
  unfolding begins folded
  begins_step l m = rw (so_far, add-one, drop-cons o i 0 l, drop-cons t i 0 m)

  pub begins_end : length o ≤ i → true ≡ begins_with o t
  unfolding begins folded
  begins_end l = rw (so_far, drop_of_length-le o l)

  module _ (inside : i < length o) (within : i < length t) (x y : ℕ) (x-is : x ≡ fold (get_or o i 0)) (y-is : y ≡ fold (get_or t i 0)) where
    pub begins_differ : (x ≡ y → ⊥) → false ≡ begins_with o t
    begins_differ ne = rw (begins_step inside within, ← x-is, ← y-is, ne_eqb _ _ ne)

    pub begins_more : x ≡ y → begins_with o t ≡ begins_with (drop (i + 1) o) (drop (i + 1) t)
    begins_more e = rw (begins_step inside within, ← x-is, ← y-is, eq-eqb _ _ e)

-- equals: as long as the operand, and begins with it

same_length : (o t : List ℕ) → length t ≡ length o → same o t ≡ begins o t
unfolding same begins
same_length [] [] e = refl
same_length [] (y ∷ t) e = absurd (omega arith)
same_length (x ∷ o) [] e = absurd (omega arith)
same_length (x ∷ o) (y ∷ t) e = ap (◌&&◌ (eqb x y)) (same_length o t (omega arith))

same_other : (o t : List ℕ) → (length t ≡ length o → ⊥) → same o t ≡ false
unfolding same
same_other [] [] ne = absurd (ne refl)
same_other [] (y ∷ t) ne = refl
same_other (x ∷ o) [] ne = refl
same_other (x ∷ o) (y ∷ t) ne = ap (◌&&◌ (eqb x y)) (same_other o t (λ e. ne (ap suc e))) ∙ and-false (eqb x y)

pub equals_begins : (o t : List ℕ) (r : Bool) → length t ≡ length o → r ≡ begins_with o t → r ≡ equals o t
equals_begins o t r e h = h ∙ sym (same_length (folded o) (folded t) (folded_length t ∙ e ∙ sym (folded_length o)))

pub equals_other : (o t : List ℕ) → (length t ≡ length o → ⊥) → false ≡ equals o t
equals_other o t ne = sym (same_other (folded o) (folded t) (λ e. ne (sym (folded_length t) ∙ e ∙ folded_length o)))

-- a loop over the text's starting places: what is left to try from place a on

module _ (o t : List ℕ) (a : ℕ) (so_far : contains o t ≡ contains o (drop a t)) where
  pub contains_end : length t ≤ a → false ≡ contains o t
  unfolding occurs folded
  contains_end l = rw (so_far, drop_of_length-le t l)

  pub contains_longer : length t - a < length o → false ≡ contains o t
  contains_longer l =
      rw so_far (sym (occurs_longer (folded o) (folded (drop a t)) (rw (folded_length (drop a t), folded_length o, length-drop) l)))

  -- the tail is handed on as a part, up to the text's end
  module _ (inside : a < length t) (r : Bool) (tried : r ≡ begins_with o (take (length t - a) (drop a t))) where
    contains_step : contains o t ≡ (r || contains o (drop (a + 1) t))
    unfolding occurs folded
    contains_step =
        let whole : r ≡ begins_with o (drop a t) = rw (part_rest t a) at tried in
        rw (so_far, whole, add-one, drop-cons t a 0 inside)

    pub contains_found : r ≡ true → true ≡ contains o t
    contains_found e = rw (contains_step, e)

    pub contains_more : r ≡ false → contains o t ≡ contains o (drop (a + 1) t)
    contains_more e = rw (contains_step, e)
