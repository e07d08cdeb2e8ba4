-- The bits of a number of given width and of a table, and their ones.
use Rattle.std.specs.Prelude.{ℕ, zero, suc, ◌+◌, ◌*◌, ◌/◌, ◌%◌, ◌^◌, ◌≤◌, ◌<◌, ◌≡◌, refl, Bool, true, false, ◌&&◌, ◌||◌, ◌⊎◌, List, [], ◌∷◌, length, get_or, eqb, ltb}
use Rattle.std.proofs.Math.Nat.{div-eq_of_lt}
use Rattle.std.proofs.Common.{add_comm, one-mul, zero-mul, add-zero, lt_of_lt_of_le, arith, sym, ap, ap₂, ◌∙◌, inl, inr, pow_mono}
use Rattle.std.proofs.Math.ListN.{get_or-eq_default}
use Rattle.std.specs.Int.Bits.{bit_or, or_shifted_r}
use Rattle.std.specs.Int.Count.{ones, ones_step}
use Rattle.std.proofs.lemmas.Nat.{ones_cat, ones-le}
use Rattle.bools.specs.Bools.{which, iff_eq, same?, eqb_self, eqb_ne, ltb_yes, ltb_no, ltb_lt, ltb_le}
use Rattle.sets.specs.Set.{has, one_set}
use Rattle.sets.specs.SetLaws.{has_or, has_one, has_none, same_set}
use Rattle.bitmaps.specs.Sums.{sum_of, digit, count_of}
use Rattle.bitmaps.proofs.SumLaws.{sum_split, count_same}
use Rattle.bitmaps.specs.Bitmap.{binary, ones_in}
use Rattle.fields.specs.Numbers.{Bytes}
use Rattle.bitmaps.specs.Bit.{bit}

-- a number below 2 ^ k has no bit from k on
pub has_high : (k x d : ℕ) → x < 2 ^ k → k ≤ d → has x d ≡ false
unfolding has
has_high k x d h l = ap (λ (z : ℕ). eqb (z % 2) 1) (div-eq_of_lt (lt_of_lt_of_le h (pow_mono l)))

-- one digit more, of a number below 2 ^ n
digit_lt : (n s : ℕ) (v : Bool) → s < 2 ^ n → s + digit v * 2 ^ n < 2 ^ suc n
digit_lt n s true h = omega arith
digit_lt n s false h = omega arith

pub or_false : (a : Bool) → a ≡ (a || false)
or_false true = refl
or_false false = refl

digit_has : (n s : ℕ) (v : Bool) (d : ℕ) → s < 2 ^ n → has (s + digit v * 2 ^ n) d ≡ (has s d || (v && eqb d n))
digit_has n s true d h =
    ap (λ (x : ℕ). has x d) (add_comm s (1 * 2 ^ n) ∙ sym (or_shifted_r 1 n s h) ∙ ap (bit_or s) (one-mul (2 ^ n)))
    ∙ has_or s (one_set n) d ∙ ap (λ (b : Bool). has s d || b) (has_one n d)
digit_has n s false d h = ap (λ (x : ℕ). has x d) (ap (λ (x : ℕ). s + x) (zero-mul (2 ^ n)) ∙ add-zero s) ∙ or_false (has s d)

ones_zero : ones 0 ≡ 0
ones_zero = omega (arith, ones-le 0 0 (omega arith))

ones_one : ones 1 ≡ 1
ones_one = omega (arith, ones_step 1, ones_zero)

digit_ones_lem : (n s : ℕ) (v : Bool) → s < 2 ^ n → ones (s + digit v * 2 ^ n) ≡ ones s + digit v
digit_ones_lem n s true h = ap ones (add_comm s (1 * 2 ^ n)) ∙ omega (arith, ones_cat n 1 s h, ones_one)
digit_ones_lem n s false h = ap ones (ap (λ (x : ℕ). s + x) (zero-mul (2 ^ n)) ∙ add-zero s) ∙ sym (add-zero (ones s))

pub binary_lt : (b : ℕ → Bool) (n : ℕ) → binary b n < 2 ^ n
unfolding sum_of
binary_lt b zero = omega arith
binary_lt b (suc n) = digit_lt n (binary b n) (b n) (binary_lt b n)

-- one place more
pub below_more : (b : ℕ → Bool) (n d : ℕ) → ((ltb d n && b d) || (b n && eqb d n)) ≡ (ltb d (suc n) && b d)
below_more b n d = go (same? d n)
  where
    last : (v : Bool) → (v && true) ≡ v
    last true = refl
    last false = refl

    other : (x v : Bool) → (x || (v && false)) ≡ x
    other true v = refl
    other false true = refl
    other false false = refl

    go : (d ≡ n) ⊎ (d ≡ n → ⊥) → ((ltb d n && b d) || (b n && eqb d n)) ≡ (ltb d (suc n) && b d)
    go (inl e) =
        rw (e, ltb_no n n (omega arith), ltb_yes n (suc n) (omega arith), eqb_self n) (last (b n))
    go (inr ne) =
        let q : ltb d n ≡ ltb d (suc n) = iff_eq (ltb d n) (ltb d (suc n)) (λ y. let l : d < n = ltb_lt d n y in ltb_yes d (suc n) (omega arith)) (λ y. let l : d < suc n = ltb_lt d (suc n) y in ltb_yes d n (omega (arith, ne))) in
        rw (eqb_ne d n ne) (other (ltb d n && b d) (b n) ∙ ap (λ (x : Bool). x && b d) q)

pub has_binary : (b : ℕ → Bool) (n d : ℕ) → has (binary b n) d ≡ (ltb d n && b d)
unfolding sum_of
has_binary b zero d = has_none d ∙ sym (ap (λ (x : Bool). x && b d) (ltb_no d 0 (omega arith)))
has_binary b (suc n) d =
    digit_has n (binary b n) (b n) d (binary_lt b n) ∙ ap (λ (x : Bool). x || (b n && eqb d n)) (has_binary b n d) ∙ below_more b n d

-- the converse of `has_high`: a number of n bits that has none from k on is below 2 ^ k
pub below_high : (n x k : ℕ) → x < 2 ^ n → k ≤ n → ((d : ℕ) → k ≤ d → d < n → has x d ≡ false) → x < 2 ^ k
below_high n x k l few h = rw same (binary_lt (has x) k)
  where
    bits : (d : ℕ) → (ltb d k ≡ true) ⊎ (ltb d k ≡ false) → (ltb d n ≡ true) ⊎ (ltb d n ≡ false) → has x d ≡ (ltb d k && has x d)
    bits d (inl y) z = rw y
    bits d (inr y) (inl z) = rw y (h d (ltb_le d k y) (ltb_lt d n z))
    bits d (inr y) (inr z) = rw y (has_high n x d l (ltb_le d n z))

    same : x ≡ binary (has x) k
    same = same_set n x (binary (has x) k) l (lt_of_lt_of_le (binary_lt (has x) k) (pow_mono few)) (λ d. bits d (which (ltb d k)) (which (ltb d n)) ∙ sym (has_binary (has x) k d))

ones_binary : (b : ℕ → Bool) (n : ℕ) → ones (binary b n) ≡ count_of b n
unfolding sum_of
ones_binary b zero = ones_zero
ones_binary b (suc n) = digit_ones_lem n (binary b n) (b n) (binary_lt b n) ∙ ap (λ (x : ℕ). x + digit (b n)) (ones_binary b n)

-- a number is the number of its bits, and has as many ones as there are of them
binary_has : (k x : ℕ) → x < 2 ^ k → x ≡ binary (has x) k
binary_has k x h = same_set k x (binary (has x) k) h (binary_lt (has x) k) (λ d. go d (which (ltb d k)) ∙ sym (has_binary (has x) k d))
  where
    go : (d : ℕ) → (ltb d k ≡ true) ⊎ (ltb d k ≡ false) → has x d ≡ (ltb d k && has x d)
    go d (inl y) = rw y
    go d (inr y) = rw y (has_high k x d h (ltb_le d k y))

pub ones_has : (k x : ℕ) → x < 2 ^ k → ones x ≡ count_of (has x) k
ones_has k x h = ap ones (binary_has k x h) ∙ ones_binary (has x) k

-- the bits of byte i
pub bit_at : (t : List ℕ) (i j : ℕ) → j < 8 → bit t (i * 8 + j) ≡ has (get_or t i 0) j
unfolding bit has
bit_at t i j l =
    let q : (i * 8 + j) / 8 ≡ i = omega arith in
    let r : (i * 8 + j) % 8 ≡ j = omega arith in
    rw (q, r)

-- past the end of a table no bit is set
pub bit_past : (t : List ℕ) (k : ℕ) → length t ≤ k / 8 → bit t k ≡ false
unfolding bit has
bit_past t k h = ap (λ (x : ℕ). has x (k % 8)) (get_or-eq_default t 0 h) ∙ has_none (k % 8)

bit_first : (x : ℕ) (xs : List ℕ) (e : ℕ) → e < 8 → bit (x ∷ xs) e ≡ has x e
bit_first x xs e l = let q : 0 * 8 + e ≡ e = omega arith in sym (ap (bit (x ∷ xs)) q) ∙ bit_at (x ∷ xs) 0 e l

bit_rest : (x : ℕ) (xs : List ℕ) (e : ℕ) → bit (x ∷ xs) (8 + e) ≡ bit xs e
unfolding bit has
bit_rest x xs e =
    let q : (8 + e) / 8 ≡ suc (e / 8) = omega arith in
    let r : (8 + e) % 8 ≡ e % 8 = omega arith in
    rw (q, r)

-- a table has as many ones as there are of its bits
pub ones_bits : (t : List ℕ) → Bytes t → ones_in t ≡ count_of (bit t) (length t * 8)
unfolding ones_in sum_of
ones_bits [] b = refl
ones_bits (x ∷ xs) b =
    let e : suc (length xs) * 8 ≡ 8 + length xs * 8 = omega arith in
    ap₂ ◌+◌
    (ones_has 8 x (b 0) ∙ count_same (has x) (bit (x ∷ xs)) 8 (λ i l. sym (bit_first x xs i l)))
    (ones_bits xs (λ i. b (suc i)) ∙ count_same (bit xs) (λ i. bit (x ∷ xs) (8 + i)) (length xs * 8) (λ i l. sym (bit_rest x xs i)))
    ∙ sym (sum_split (λ i. digit (bit (x ∷ xs) i)) 8 (length xs * 8)) ∙ ap (count_of (bit (x ∷ xs))) (sym e)
