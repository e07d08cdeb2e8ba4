-- The number of four bytes from the number of the same bytes with the least significant first, and where a block's numbers lie.
use Rattle.std.proofs.Common.{◌≡◌, ℕ, ◌+◌, ◌*◌, ◌/◌, ◌%◌, ◌^◌, ◌<◌, true, eqb, List, sym, refl, ap, ◌∙◌, ap₂, arith, eq-eqb, eqb-true}
use native.Mathlib.Nat.{mod-add-mod, add-mod-mod}
use lib.Bits.{bit_and, and_mask, and_mod, and_shr}
use Rattle.bools.specs.Bools.{iff_eq}
use Rattle.fields.specs.Numbers.{number_at, Bytes}
use Rattle.fields.proofs.Laws.{number_four}
use Rattle.words.specs.Words.{word_at}
use Rattle.words.proofs.WordLaws.{word_four}
use Rattle.catalogue.specs.Format.{blank_number}
use Rattle.predicate.specs.Meaning.{number_blank}

-- the first byte and the third
pairs : (x : ℕ) → bit_and x 16711935 ≡ x % 256 + 65536 * (x / 65536 % 256)
pairs x =
    let h : bit_and x 16711935 / 2 ^ 16 ≡ x / 2 ^ 16 % 2 ^ 8 = and_shr x 16711935 16 ∙ and_mask (x / 2 ^ 16) 8 in
    let l : bit_and x 16711935 % 2 ^ 16 ≡ x % 2 ^ 16 % 2 ^ 8 = and_mod x 16711935 16 ∙ and_mask (x % 2 ^ 16) 8 in
    omega arith

low_byte : (a t x : ℕ) → a < 256 → x ≡ a + 256 * t → x % 256 ≡ a
low_byte a t x l e = omega arith

above_byte : (a t x : ℕ) → a < 256 → x ≡ a + 256 * t → x / 256 ≡ t
above_byte a t x l e = omega arith

above_two : (u w x : ℕ) → u < 65536 → x ≡ u + 65536 * w → x / 65536 ≡ w
above_two u w x l e = omega arith

pairs_of : (a0 a1 a2 t x : ℕ) → a0 < 256 → a1 < 256 → a2 < 256 → x ≡ a0 + 256 * a1 + 65536 * (a2 + 256 * t) → bit_and x 16711935 ≡ a0 + 65536 * a2
pairs_of a0 a1 a2 t x l0 l1 l2 e =
    pairs x
    ∙ ap₂ (λ (p q : ℕ). p + 65536 * q) (low_byte a0 (a1 + 256 * (a2 + 256 * t)) x l0 (omega arith))
    (ap (λ (z : ℕ). z % 256) (above_two (a0 + 256 * a1) (a2 + 256 * t) x (omega arith) e) ∙ low_byte a2 t (a2 + 256 * t) l2 refl)

-- two bytes and two more change places, `low` being taken away between
swapped : (h l y s low r : ℕ) → h < 65536 → l < 65536 → y ≡ h + 65536 * l → (s + low) % 2 ^ 32 ≡ y * 2 ^ 16 % 2 ^ 32 → r ≡ (s + y / 2 ^ 16) % 2 ^ 32 → (r + low) % 2 ^ 32 ≡ 65536 * h + l
swapped h l y s low r lh ll e f g = wrapped s low r (f ∙ up) (g ∙ ap (λ (z : ℕ). (s + z) % 2 ^ 32) (above_two h l y lh e))
  where
    up : y * 2 ^ 16 % 2 ^ 32 ≡ 65536 * h
    up = omega arith

    wrapped : (s low r : ℕ) → (s + low) % 2 ^ 32 ≡ 65536 * h → r ≡ (s + l) % 2 ^ 32 → (r + low) % 2 ^ 32 ≡ 65536 * h + l
    wrapped s low r f g = omega (arith, lh, ll)

in_order : (b : List ℕ) (p : ℕ) → Bytes b → (s low : ℕ) {x y r : ℕ} → x ≡ word_at b p 4 → y ≡ bit_and x 16711935 * 256 + bit_and (x / 2 ^ 8) 16711935
    → (s + low) % 2 ^ 32 ≡ y * 2 ^ 16 % 2 ^ 32 → r ≡ (s + y / 2 ^ 16) % 2 ^ 32 → (r + low) % 2 ^ 32 ≡ number_at b p 4
in_order b p bytes s low {x} {y} {r} ex ey es er =
    go _ _ _ _ (bytes p) (bytes (p + 1)) (bytes (p + 2)) (bytes (p + 3)) (ex ∙ word_four b p) ∙ sym (number_four b p)
  where
    sums : (a0 a1 a2 a3 u v y : ℕ) → u ≡ a0 + 65536 * a2 → v ≡ a1 + 65536 * a3 → y ≡ u * 256 + v → y ≡ a1 + 256 * a0 + 65536 * (a3 + 256 * a2)
    sums a0 a1 a2 a3 u v y e f g = omega arith

    go : (a0 a1 a2 a3 : ℕ) → a0 < 256 → a1 < 256 → a2 < 256 → a3 < 256 → x ≡ a0 + 256 * a1 + 65536 * a2 + 16777216 * a3 → (r + low) % 2 ^ 32 ≡ a0 * 16777216 + a1 * 65536 + a2 * 256 + a3
    go a0 a1 a2 a3 l0 l1 l2 l3 e =
        let d : x / 256 ≡ a1 + 256 * a2 + 65536 * (a3 + 256 * 0) = above_byte a0 (a1 + 256 * a2 + 65536 * (a3 + 256 * 0)) x l0 (e ∙ omega arith) in
        swapped (a1 + 256 * a0) (a3 + 256 * a2) y s low r (omega (arith, l0, l1)) (omega (arith, l2, l3))
        (sums a0 a1 a2 a3 (bit_and x 16711935) (bit_and (x / 256) 16711935) y (pairs_of a0 a1 a2 a3 x l0 l1 l2 (e ∙ omega arith)) (pairs_of a1 a2 a3 0 (x / 256) l1 l2 l3 d) ey) es er
        ∙ omega arith

-- the same with 2^31 taken off `low` and off the sum
pub in_order_signed : (b : List ℕ) (p : ℕ) → Bytes b → (turned s low r : ℕ) {x y sum : ℕ} → x ≡ word_at b p 4 → y ≡ bit_and x 16711935 * 256 + bit_and (x / 2 ^ 8) 16711935
    → (turned + 2 ^ 31) % 2 ^ 32 ≡ low → (s + turned) % 2 ^ 32 ≡ y * 2 ^ 16 % 2 ^ 32 → sum ≡ (s + y / 2 ^ 16) % 2 ^ 32 → (r + 2 ^ 31) % 2 ^ 32 ≡ sum
    → (r + low) % 2 ^ 32 ≡ number_at b p 4
in_order_signed b p bytes turned s low r {sum = sum} ex ey el es et er =
    ap (λ (z : ℕ). (r + z) % 2 ^ 32) (sym el) ∙ add-mod-mod r (turned + 2 ^ 31) (2 ^ 32) ∙ ap (λ (z : ℕ). z % 2 ^ 32) swap ∙ sym (mod-add-mod (r + 2 ^ 31) (2 ^ 32) turned)
    ∙ ap (λ (z : ℕ). (z + turned) % 2 ^ 32) er ∙ in_order b p bytes s turned ex ey es et
  where
    swap : r + (turned + 2 ^ 31) ≡ r + 2 ^ 31 + turned
    swap = omega arith

-- a number of four bytes is the blank from either end
pub blank_either : (b : List ℕ) (p : ℕ) → Bytes b → {x : ℕ} → x ≡ word_at b p 4 → eqb x blank_number ≡ number_blank (number_at b p 4)
blank_either b p bytes {x} e = iff_eq (eqb x blank_number) (number_blank (number_at b p 4)) (λ t. to (eqb-true x blank_number t)) (λ t. from (eqb-true (number_at b p 4) blank_number t))
  where
    to : x ≡ blank_number → number_blank (number_at b p 4) ≡ true
    to t = eq-eqb (number_at b p 4) blank_number (omega (arith, word_four b p, number_four b p, bytes p, bytes (p + 1), bytes (p + 2), bytes (p + 3)))

    from : number_at b p 4 ≡ blank_number → eqb x blank_number ≡ true
    from t = eq-eqb x blank_number (omega (arith, word_four b p, number_four b p, bytes p, bytes (p + 1), bytes (p + 2), bytes (p + 3)))
