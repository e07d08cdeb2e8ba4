-- Where an operand is found in a slot's text, its bytes stand in the slot, folded.
use Prim.Native.Nat.{ℕ, zero, suc, ◌+◌, ◌≤◌, ◌<◌}
use native.Mathlib.Omega.{arith}
use mathlib.Core.Path.{◌≡◌, refl, sym, ap, ◌∙◌}
use mathlib.Core.Bool.{true, true≢false}
use mathlib.Core.Logic.{◌⊎◌, inl, inr}
use mathlib.Core.List.{List, [], ◌∷◌}
use lib.ListN.{length, get_or, drop, length-drop}
use lib.Seq.{get_or-drop, get_or-take, length-take-le}
use lib.Dec.{eqb}
use Rattle.bools.specs.Bools.{and_parts, or_cases, same?, clash, eqb_eq}
use Rattle.slots.specs.Slots.{slot_size, text_limit, text_at}
use Rattle.predicate.specs.Meaning.{fold, folded, begins, occurs, equals, begins_with, contains}
use Rattle.predicate.proofs.TextLaws.{equals_begins, equals_other}

-- a text that begins with the operand is not shorter, and has its bytes, folded

begins_size : (o t : List ℕ) → begins_with o t ≡ true → length o ≤ length t
unfolding begins folded
begins_size [] t e = omega arith
begins_size (x ∷ o) [] e = absurd (true≢false (sym e))
begins_size (x ∷ o) (y ∷ t) e = let l = begins_size o t (and_parts (eqb (fold x) (fold y)) (begins_with o t) e).1 in omega arith

begins_byte : (o t : List ℕ) (i : ℕ) → i < length o → begins_with o t ≡ true → fold (get_or t i 0) ≡ fold (get_or o i 0)
unfolding begins folded
begins_byte [] t i h e = absurd (omega arith)
begins_byte (x ∷ o) [] i h e = absurd (true≢false (sym e))
begins_byte (x ∷ o) (y ∷ t) zero h e = sym (eqb_eq (fold x) (fold y) (and_parts (eqb (fold x) (fold y)) (begins_with o t) e).0)
begins_byte (x ∷ o) (y ∷ t) (suc i) h e = begins_byte o t i (omega arith) (and_parts (eqb (fold x) (fold y)) (begins_with o t) e).1

-- contained, it begins the tail from some place; equal, it is as long as the text and begins it

pub contains_from : (o t : List ℕ) → contains o t ≡ true → (a : ℕ) × (begins_with o (drop a t) ≡ true)
unfolding occurs folded
contains_from o [] e = absurd (true≢false (sym e))
contains_from o (y ∷ t) e =
    let go : (begins_with o (y ∷ t) ≡ true) ⊎ (contains o t ≡ true) → (a : ℕ) × (begins_with o (drop a (y ∷ t)) ≡ true)
    = elim [ inl q ↦ (0, q) | inr q ↦ (let f = contains_from o t q in (suc f.0, f.1)) ] in
    go (or_cases (begins_with o (y ∷ t)) (contains o t) e)

pub equals_whole : (o t : List ℕ) → equals o t ≡ true → (length t ≡ length o) × (begins_with o t ≡ true)
equals_whole o t e = go (same? (length t) (length o))
  where
    go : (length t ≡ length o) ⊎ (length t ≡ length o → ⊥) → (length t ≡ length o) × (begins_with o t ≡ true)
    go (inl q) = (q, equals_begins o t (begins_with o t) q refl ∙ e)
    go (inr ne) = clash e (sym (equals_other o t ne))

-- the text of a slot that lies in the bytes
module _ (b : List ℕ) (p : ℕ) (inside : p + slot_size ≤ length b) (short : get_or b p 0 ≤ text_limit) where
  pub text_size : length (text_at b p) ≡ get_or b p 0
  unfolding text_at
  text_size = length-take-le (get_or b p 0) (drop (p + 1) b) (rw length-drop (omega arith))

  text_byte : (i : ℕ) → i < get_or b p 0 → get_or (text_at b p) i 0 ≡ get_or b (p + 1 + i) 0
  unfolding text_at
  text_byte i h = rw (get_or-take, get_or-drop)

  -- the operand is found at place a of it
  module _ (o : List ℕ) (some : 0 < length o) (a : ℕ) (found : begins_with o (drop a (text_at b p)) ≡ true) where
    pub found_size : a + length o ≤ get_or b p 0
    found_size =
        let l = begins_size o (drop a (text_at b p)) found in
        let d = length-drop a (text_at b p) in
        let n = text_size in
        omega arith

    pub found_byte : (i : ℕ) → i < length o → fold (get_or b (p + 1 + a + i) 0) ≡ fold (get_or o i 0)
    found_byte i h =
        let l = found_size in
        let z : p + 1 + (a + i) ≡ p + 1 + a + i = omega arith in
        ap (λ (j : ℕ). fold (get_or b j 0)) (sym z) ∙ ap fold (sym (text_byte (a + i) (omega arith))) ∙ ap fold (sym (get_or-drop a (text_at b p) i 0)) ∙ begins_byte o (drop a (text_at b p)) i h found
