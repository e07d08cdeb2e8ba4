-- The value of a row, in the decoded column and in the bytes.
use Prim.Native.Nat.{ℕ, zero, suc, ◌+◌, ◌-◌, ◌*◌, ◌≤◌, ◌<◌}
use native.Mathlib.Omega.{arith}
use mathlib.Core.Path.{◌≡◌, refl, ap, ◌∙◌}
use mathlib.Core.Bool.{true}
use mathlib.Core.Logic.{◌⊎◌, inl, inr, ∥∥₁_elim}
use mathlib.Core.List.{List, []}
use Rattle.std.specs.Coded.{coded_bool, Coded-set, ×_prop, le_prop}
use lib.ListN.{length, get_or, take, drop}
use lib.Dec.{leb}
use borrow.Author.Tests.{leb-true}
use Rattle.bools.specs.Bools.{both, and_left, and_right, same?}
use Rattle.fields.specs.Numbers.{number_at}
use Rattle.catalogue.specs.Format.{number_tag, number_size, text_tag}
use Rattle.catalogue.specs.Catalogue.{numbers, texts}
use Rattle.slots.specs.Slots.{slot_size, text_limit, text_at, texts_at, zeros_at, valid_slot, valid_slots}
use Rattle.catalogue.specs.Decode.{numbers_at}
use Rattle.catalogue.specs.declared.cell.Cell.{Cell}
use Rattle.catalogue.specs.InPlace.{HasRow, NumberIs, TextIs}

numbers_at_lem : (b : List ℕ) (s rows row : ℕ) → row < rows → get_or (numbers_at b s rows) row 0 ≡ number_at b (s + number_size * row) number_size
unfolding numbers_at
numbers_at_lem b s zero row h = absurd (omega arith)
numbers_at_lem b s (suc rows) zero h = let z : s ≡ s + number_size * 0 = omega arith in ap (λ (k : ℕ). number_at b k number_size) z
numbers_at_lem b s (suc rows) (suc row) h =
    let z : s + number_size + number_size * row ≡ s + number_size * suc row = omega arith in
    numbers_at_lem b (s + number_size) rows row (omega arith) ∙ ap (λ (k : ℕ). number_at b k number_size) z

texts_at_lem : (b : List ℕ) (s rows row : ℕ) → row < rows → get_or (texts_at b s rows) row [] ≡ text_at b (s + slot_size * row)
unfolding texts_at
texts_at_lem b s zero row h = absurd (omega arith)
texts_at_lem b s (suc rows) zero h = let z : s ≡ s + slot_size * 0 = omega arith in ap (text_at b) z
texts_at_lem b s (suc rows) (suc row) h =
    let z : s + slot_size + slot_size * row ≡ s + slot_size * suc row = omega arith in
    texts_at_lem b (s + slot_size) rows row (omega arith) ∙ ap (text_at b) z

slots_at : (b : List ℕ) (s rows row : ℕ) → valid_slots b s rows ≡ true → row < rows → valid_slot b (s + slot_size * row) ≡ true
unfolding valid_slots
slots_at b s zero row g h = absurd (omega arith)
slots_at b s (suc rows) zero g h =
    let z : s + slot_size * 0 ≡ s = omega arith in
    ap (valid_slot b) z ∙ and_left (valid_slot b s) (valid_slots b (s + slot_size) rows) g
slots_at b s (suc rows) (suc row) g h =
    let z : s + slot_size * suc row ≡ s + slot_size + slot_size * row = omega arith in
    ap (valid_slot b) z ∙ slots_at b (s + slot_size) rows row (and_right (valid_slot b s) (valid_slots b (s + slot_size) rows) g) (omega arith)

slot_short : (b : List ℕ) (p : ℕ) → valid_slot b p ≡ true → get_or b p 0 ≤ text_limit
unfolding valid_slot
slot_short b p g = leb-true _ _ (and_left (leb (get_or b p 0) text_limit) (zeros_at b (p + 1 + get_or b p 0) (text_limit - get_or b p 0)) g)

-- a row of a number column lies in the bytes, and its number is the decoded one
pub has_number : (b : List ℕ) (start row : ℕ) → HasRow b number_tag start row → start + number_size * row + number_size ≤ length b
has_number b start row (rows, numbers ns, s, l) = omega arith
has_number b start row (rows, texts ts, s, l) = let z : number_tag ≡ text_tag = s.0 in absurd (omega arith)

pub number_is : (b : List ℕ) (start row r : ℕ) → r ≡ number_at b (start + number_size * row) number_size → NumberIs b start row r
number_is b start row r e rows ns s l = rw (s.2, numbers_at_lem b start rows row l) e

-- a row of a text column lies in the bytes with its text, which is the decoded one
pub has_text : (b : List ℕ) (start row : ℕ) → HasRow b text_tag start row → (start + slot_size * row + slot_size ≤ length b) × (get_or b (start + slot_size * row) 0 ≤ text_limit)
has_text b start row (rows, numbers ns, s, l) = let z : text_tag ≡ number_tag = s.0 in absurd (omega arith)
has_text b start row (rows, texts ts, s, l) = (omega arith, slot_short b (start + slot_size * row) (slots_at b start rows row s.3 l))

text_part : (b : List ℕ) (at n : ℕ) → n ≡ get_or b at 0 → take (at + 1 + n - (at + 1)) (drop (at + 1) b) ≡ text_at b at
unfolding text_at
text_part b at n e = let z : at + 1 + n - (at + 1) ≡ get_or b at 0 = omega arith in rw z

pub text_is : (b : List ℕ) (start row at n : ℕ) → at ≡ start + slot_size * row → n ≡ get_or b at 0 → TextIs b start row (take (at + 1 + n - (at + 1)) (drop (at + 1) b))
text_is b start row at n p e rows ts s l = rw (s.2, texts_at_lem b start rows row l, ← p) (text_part b at n e)

-- the first rows of valid slots are valid slots
fewer_valid : (b : List ℕ) (s n rows : ℕ) → n ≤ rows → valid_slots b s rows ≡ true → valid_slots b s n ≡ true
unfolding valid_slots
fewer_valid b s zero rows l g = refl
fewer_valid b s (suc n) zero l g = absurd (omega arith)
fewer_valid b s (suc n) (suc rows) l g =
    both (and_left (valid_slot b s) (valid_slots b (s + slot_size) rows) g)
    (fewer_valid b (s + slot_size) n rows (omega arith) (and_right (valid_slot b s) (valid_slots b (s + slot_size) rows) g))

module _ (b : List ℕ) (start row : ℕ) where
  number_there : HasRow b number_tag start row → start + number_size * (row + 1) ≤ length b
  number_there (rows, numbers ns, s, l) = omega (arith, s.1)
  number_there (rows, texts ts, s, l) = let z : number_tag ≡ text_tag = s.0 in absurd (omega arith)

  text_there : HasRow b text_tag start row → (start + slot_size * (row + 1) ≤ length b) × (valid_slots b start (row + 1) ≡ true)
  text_there (rows, numbers ns, s, l) = let z : text_tag ≡ number_tag = s.0 in absurd (omega arith)
  text_there (rows, texts ts, s, l) = (omega (arith, s.1), fewer_valid b start (row + 1) rows (omega arith) s.3)

  other_tag : (tag : ℕ) → (tag ≡ number_tag → ⊥) → (tag ≡ text_tag → ⊥) → HasRow b tag start row → ⊥
  other_tag tag ne nf (rows, numbers ns, s, l) = ne s.0
  other_tag tag ne nf (rows, texts ts, s, l) = nf s.0

  -- a row that is merely known to be there is there: of a column of so many rows that it is the last
  pub has_row : (tag : ℕ) → ∥ HasRow b tag start row ∥₁ → HasRow b tag start row
  has_row tag h = go (same? tag number_tag) (same? tag text_tag)
    where
      go : (tag ≡ number_tag) ⊎ (tag ≡ number_tag → ⊥) → (tag ≡ text_tag) ⊎ (tag ≡ text_tag → ⊥) → HasRow b tag start row
      go (inl e) w =
          let p = ∥∥₁_elim (rw e at h) le_prop number_there in
          (row + 1, numbers (numbers_at b start (row + 1)), (e, p, refl), omega arith)
      go (inr ne) (inl e) =
          let p = ∥∥₁_elim (rw e at h) (×_prop le_prop (Coded-set coded_bool _ _)) text_there in
          (row + 1, texts (texts_at b start (row + 1)), (e, p.0, refl, p.1), omega arith)
      go (inr ne) (inr nf) = absurd (∥∥₁_elim h (λ x y. absurd x) (other_tag tag ne nf))

-- the row of a cell, of a column whose tag is known
pub cell_row : (C : Cell) {tag : ℕ} → C.tag ≡ tag → HasRow C.b.now tag C.start C.row
cell_row C e = rw e at (has_row C.b.now C.start C.row C.tag C.there)
