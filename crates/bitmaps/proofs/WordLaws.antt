-- The bits of a word: those of its bytes, in a number and in a table, and those of the rows that are left.
use Rattle.std.specs.Prelude.{ℕ, zero, suc, ◌+◌, ◌*◌, ◌/◌, ◌%◌, ◌^◌, ◌<◌, min, ◌≡◌, refl, Bool, true, false, ◌&&◌, List, get_or, eqb, ltb}
use Rattle.std.proofs.Common.{mod-lt, arith, sym, ap, ◌∙◌, pow-add, shr-shr}
use Rattle.std.proofs.Math.Nat.{pow-succ', div-div-eq-div-mul}
use Rattle.std.proofs.lemmas.Nat.{and_mask}
use Rattle.bools.specs.Bools.{iff_eq, ltb_yes, ltb_lt}
use Rattle.sets.specs.Set.{has, below_set}
use Rattle.sets.specs.SetLaws.{has_and, has_below}
use Rattle.fields.specs.Numbers.{Bytes}
use Rattle.words.specs.Words.{word_at}
use Rattle.bitmaps.specs.Bit.{bit}
use Rattle.bitmaps.proofs.BitLaws.{bit_at}
use Rattle.bitmaps.specs.Word.{block_rows, word_size, rows_set}

-- the bits below k, and those from k on
has_low : (x k d : ℕ) → d < k → has (x % 2 ^ k) d ≡ has x d
has_low x k d h =
    ap (λ (z : ℕ). has z d) (sym (and_mask x k)) ∙ has_and x (below_set k) d
    ∙ ap (λ (b : Bool). has x d && b) (has_below k d ∙ ltb_yes d k h) ∙ last (has x d)
  where
    last : (b : Bool) → (b && true) ≡ b
    last true = refl
    last false = refl

has_from : (x k d : ℕ) → has (x / 2 ^ k) d ≡ has x (k + d)
unfolding has
has_from x k d = ap (λ (z : ℕ). eqb (z % 2) 1) (shr-shr x k d)

bits_of_bytes : (k : ℕ) → 256 ^ k ≡ 2 ^ (8 * k)
bits_of_bytes zero = refl
bits_of_bytes (suc k) =
    let z : 8 * suc k ≡ 8 + 8 * k = omega arith in
    let h : 256 ^ k ≡ 2 ^ (8 * k) = bits_of_bytes k in
    let g : 2 ^ (8 + 8 * k) ≡ 256 * 2 ^ (8 * k) = pow-add 2 8 (8 * k) in
    rw (z, g) (omega arith)

-- bit d of a number is bit d % 8 of its byte d / 8
pub byte_has : (x d : ℕ) → has (x / 256 ^ (d / 8) % 256) (d % 8) ≡ has x d
byte_has x d =
    let z : 8 * (d / 8) + d % 8 ≡ d = omega arith in
    has_low (x / 256 ^ (d / 8)) 8 (d % 8) (mod-lt d (omega arith))
    ∙ ap (λ (y : ℕ). has (x / y) (d % 8)) (bits_of_bytes (d / 8)) ∙ has_from x (8 * (d / 8)) (d % 8) ∙ ap (has x) z

-- byte k of a word read from a table
word_byte : (t : List ℕ) → Bytes t → (at n k : ℕ) → k < n → word_at t at n / 256 ^ k % 256 ≡ get_or t (at + k) 0
unfolding word_at
word_byte t b at zero k h = absurd (omega arith)
word_byte t b at (suc n) zero h = let z : at + 0 ≡ at = omega arith in rw z (omega (arith, b at))
word_byte t b at (suc n) (suc k) h =
    let z : at + suc k ≡ at + 1 + k = omega arith in
    let y : (get_or t at 0 + 256 * word_at t (at + 1) n) / 256 ≡ word_at t (at + 1) n = omega (arith, b at) in
    ap (λ (p : ℕ). (get_or t at 0 + 256 * word_at t (at + 1) n) / p % 256) (pow-succ' 256 k)
    ∙ ap (λ (x : ℕ). x % 256) (sym (div-div-eq-div-mul (get_or t at 0 + 256 * word_at t (at + 1) n) 256 (256 ^ k)))
    ∙ rw (y, z) (word_byte t b (at + 1) n k (omega arith))

-- the bits of a word are those of the table where it was read
pub word_has : (t : List ℕ) → Bytes t → (at d : ℕ) → d < block_rows → has (word_at t at word_size) d ≡ bit t (at * 8 + d)
word_has t b at d h =
    let p : at * 8 + d ≡ (at + d / 8) * 8 + d % 8 = omega arith in
    sym (ap (bit t) p ∙ bit_at t (at + d / 8) (d % 8) (mod-lt d (omega arith))
    ∙ ap (λ (y : ℕ). has y (d % 8)) (sym (word_byte t b at word_size (d / 8) (omega arith))) ∙ byte_has (word_at t at word_size) d)

pub rows_has : (left d : ℕ) → d < block_rows → has (rows_set left) d ≡ ltb d left
rows_has left d h =
    has_below (min block_rows left) d
    ∙ iff_eq (ltb d (min block_rows left)) (ltb d left)
    (λ y. let l : d < min block_rows left = ltb_lt d (min block_rows left) y in ltb_yes d left (omega arith))
    (λ y. let l : d < left = ltb_lt d left y in ltb_yes d (min block_rows left) (omega arith))

pub rows_are : {r : ℕ} (n left : ℕ) → n ≡ min block_rows left → r ≡ below_set n → r ≡ rows_set left
rows_are n left e h = rw (← e) h
