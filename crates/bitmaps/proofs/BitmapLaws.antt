-- Document 01's row rule for all rows, and what follows from it: a bitmap is determined by its bits, and its ones are counted.
use Rattle.std.specs.Prelude.{ℕ, ◌+◌, ◌*◌, ◌/◌, ◌%◌, ◌≤◌, ◌<◌, ◌≡◌, refl, Bool, true, false, ◌&&◌, ◌⊎◌, List, length, get_or, take, drop}
use Rattle.std.proofs.Common.{mod-lt, ◌∙◌, inl, inr, ext_get_or, get_or-take, length-take-le}
use native.Mathlib.Omega.{arith}
use Rattle.std.proofs.Math.Path.{sym, ap}
use Rattle.std.proofs.Math.ListN.{get_or-eq_default}
use Rattle.std.proofs.Math.Dec.{ltb}
use Rattle.bools.specs.Bools.{which, ltb_yes, ltb_no, ltb_lt, ltb_le}
use Rattle.sets.specs.Set.{has}
use Rattle.sets.specs.SetLaws.{has_none, same_set}
use Rattle.bitmaps.specs.Sums.{sum_of, joined, digit, count_of}
use Rattle.bitmaps.proofs.SumLaws.{sum_below_lem, sum_same, count_same, joined_length, joined_line, listed_length, listed_at}
use Rattle.bitmaps.specs.Bitmap.{bytes_for, binary, bitmap, bitmaps, ones_in}
use Rattle.bitmaps.proofs.OnesLaws.{ones_joined}
use Rattle.fields.specs.Numbers.{Bytes}
use Rattle.bitmaps.specs.Bit.{bit}
use Rattle.bitmaps.proofs.BitLaws.{has_high, binary_lt, has_binary, bit_at, ones_bits}

-- how many of the first `rows` hold, counted up to any bound beyond
pub count_inside : (f : ℕ → Bool) (rows m : ℕ) → rows ≤ m → count_of (λ e. ltb e rows && f e) m ≡ count_of f rows
count_inside f rows m l =
    sum_below_lem (λ e. digit (ltb e rows && f e)) rows m l (λ e k j. ap (λ (b : Bool). digit (b && f e)) (ltb_no e rows k))
    ∙ count_same (λ e. ltb e rows && f e) f rows (λ e k. ap (λ (b : Bool). b && f e) (ltb_yes e rows k))

module _ (f : ℕ → Bool) (rows : ℕ) where
  abbrev byte : ℕ → ℕ
  byte i = binary (λ j. ltb (i * 8 + j) rows && f (i * 8 + j)) 8

  pub bitmap_length : length (bitmap f rows) ≡ bytes_for rows
  unfolding bitmap
  bitmap_length = listed_length byte (bytes_for rows)

  byte_at : (i : ℕ) → i < bytes_for rows → get_or (bitmap f rows) i 0 ≡ byte i
  unfolding bitmap
  byte_at i l = listed_at byte (bytes_for rows) i l

  beyond : (i : ℕ) → bytes_for rows ≤ i → get_or (bitmap f rows) i 0 ≡ 0
  beyond i l = get_or-eq_default (bitmap f rows) 0 (omega (arith, bitmap_length))

  pub bitmap_bytes : Bytes (bitmap f rows)
  bitmap_bytes i = go (which (ltb i (bytes_for rows)))
    where
      go : (ltb i (bytes_for rows) ≡ true) ⊎ (ltb i (bytes_for rows) ≡ false) → get_or (bitmap f rows) i 0 < 256
      go (inl y) = rw (byte_at i (ltb_lt i (bytes_for rows) y)) (binary_lt (λ j. ltb (i * 8 + j) rows && f (i * 8 + j)) 8)
      go (inr y) = rw (beyond i (ltb_le i (bytes_for rows) y)) (omega arith)

  -- the row rule: bit e is f e for e below `rows`, every other bit is zero
  pub bitmap_bit : (e : ℕ) → bit (bitmap f rows) e ≡ (ltb e rows && f e)
  unfolding bit has
  bitmap_bit e = go (which (ltb (e / 8) (bytes_for rows)))
    where
      go : (ltb (e / 8) (bytes_for rows) ≡ true) ⊎ (ltb (e / 8) (bytes_for rows) ≡ false) → has (get_or (bitmap f rows) (e / 8) 0) (e % 8) ≡ (ltb e rows && f e)
      go (inl y) =
          let place : e / 8 * 8 + e % 8 ≡ e = omega arith in
          ap (λ (x : ℕ). has x (e % 8)) (byte_at (e / 8) (ltb_lt (e / 8) (bytes_for rows) y))
          ∙ has_binary (λ j. ltb (e / 8 * 8 + j) rows && f (e / 8 * 8 + j)) 8 (e % 8)
          ∙ ap (λ (b : Bool). b && (ltb (e / 8 * 8 + e % 8) rows && f (e / 8 * 8 + e % 8))) (ltb_yes (e % 8) 8 (mod-lt e (omega arith)))
          ∙ ap (λ (x : ℕ). ltb x rows && f x) place
      go (inr y) =
          let far : rows ≤ e = omega (arith, ltb_le (e / 8) (bytes_for rows) y) in
          ap (λ (x : ℕ). has x (e % 8)) (beyond (e / 8) (ltb_le (e / 8) (bytes_for rows) y)) ∙ has_none (e % 8)
          ∙ sym (ap (λ (b : Bool). b && f e) (ltb_no e rows far))

  -- the front of any table of bytes with these bits
  pub bits_bitmap : (t : List ℕ) → bytes_for rows ≤ length t → Bytes t → ((e : ℕ) → e < bytes_for rows * 8 → bit t e ≡ (ltb e rows && f e))
      → take (bytes_for rows) t ≡ bitmap f rows
  bits_bitmap t l b s = ext_get_or 0 (take (bytes_for rows) t) (bitmap f rows) (length-take-le (bytes_for rows) t l ∙ sym bitmap_length) (λ i k. at i (omega (arith, length-take-le (bytes_for rows) t l)))
    where
      bits : (i d : ℕ) → i < bytes_for rows → (ltb d 8 ≡ true) ⊎ (ltb d 8 ≡ false) → has (get_or t i 0) d ≡ has (get_or (bitmap f rows) i 0) d
      bits i d k (inl y) =
          let m : d < 8 = ltb_lt d 8 y in
          sym (bit_at t i d m) ∙ s (i * 8 + d) (omega arith) ∙ sym (bitmap_bit (i * 8 + d)) ∙ bit_at (bitmap f rows) i d m
      bits i d k (inr y) =
          let m : 8 ≤ d = ltb_le d 8 y in
          has_high 8 (get_or t i 0) d (b i) m ∙ sym (has_high 8 (get_or (bitmap f rows) i 0) d (bitmap_bytes i) m)

      at : (i : ℕ) → i < bytes_for rows → get_or (take (bytes_for rows) t) i 0 ≡ get_or (bitmap f rows) i 0
      at i k = get_or-take (bytes_for rows) t i 0 k ∙ same_set 8 (get_or t i 0) (get_or (bitmap f rows) i 0) (b i) (bitmap_bytes i) (λ d. bits i d k (which (ltb d 8)))

  pub bitmap_ones : ones_in (bitmap f rows) ≡ count_of f rows
  bitmap_ones =
      ones_bits (bitmap f rows) bitmap_bytes
      ∙ count_same (bit (bitmap f rows)) (λ e. ltb e rows && f e) (length (bitmap f rows) * 8) (λ e l. bitmap_bit e)
      ∙ count_inside f rows (length (bitmap f rows) * 8) (omega (arith, bitmap_length))

module _ (f : ℕ → ℕ → Bool) (n rows : ℕ) where
  pub bitmaps_length : length (bitmaps f n rows) ≡ n * bytes_for rows
  unfolding bitmaps
  bitmaps_length = joined_length (λ c. bitmap (f c) rows) (bytes_for rows) n (λ c l. bitmap_length (f c) rows)

  -- the row of predicate c
  pub bitmaps_line : (c : ℕ) → c < n → take (bytes_for rows) (drop (c * bytes_for rows) (bitmaps f n rows)) ≡ bitmap (f c) rows
  unfolding bitmaps
  bitmaps_line c l = joined_line (λ c. bitmap (f c) rows) (bytes_for rows) n (λ c. bitmap_length (f c) rows) c l

  pub bitmaps_ones : ones_in (bitmaps f n rows) ≡ sum_of (λ c. count_of (f c) rows) n
  unfolding bitmaps
  bitmaps_ones = ones_joined (λ c. bitmap (f c) rows) n ∙ sum_same (λ c. ones_in (bitmap (f c) rows)) (λ c. count_of (f c) rows) n (λ c l. bitmap_ones (f c) rows)

-- one row of bits is a table of one
pub bitmaps_one : (f : ℕ → Bool) (rows : ℕ) → bitmaps (λ c. f) 1 rows ≡ bitmap f rows
unfolding bitmaps joined
bitmaps_one f rows = refl
