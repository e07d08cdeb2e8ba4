-- A run's own table: empty, with one bit more, read off as document 01's bitmaps, and its ones.
use Rattle.std.specs.Prelude.{ℕ, ◌+◌, ◌*◌, ◌/◌, ◌%◌, ◌^◌, ◌≤◌, ◌<◌, ◌≡◌, Bool, true, false, ◌&&◌, ◌⊎◌, List, get_or, drop, replicate, eqb, ltb}
use Rattle.std.proofs.Common.{mul-le-mul_right, arith, ap, ◌∙◌, inl, inr, length-drop, get_or-take, get_or-drop}
use Rattle.std.proofs.Math.ListN.{take, get_or-eq_default}
use Rattle.std.proofs.lemmas.List.{length-replicate, get_or-replicate}
use Rattle.bools.specs.Bools.{which, ltb_yes, ltb_lt, ltb_le}
use Rattle.sets.specs.Set.{has}
use Rattle.sets.specs.SetLaws.{has_none}
use Rattle.bitmaps.proofs.SumLaws.{joined_same}
use Rattle.bitmaps.specs.Bitmap.{bytes_for, bitmap, bitmaps}
use Rattle.bitmaps.specs.Bit.{bit}
use Rattle.bitmaps.proofs.BitmapLaws.{bits_bitmap, bitmaps_one}
use Rattle.bitmaps.specs.Table.{line_size, line_bits, line_bit, lines_of, HoldsBits, within}

pub zeros : (n i : ℕ) → ◌≡◌ {A = ℕ} (get_or (replicate n 0) i 0) 0
zeros n i = go (which (ltb i n))
  where
    go : (ltb i n ≡ true) ⊎ (ltb i n ≡ false) → ◌≡◌ {A = ℕ} (get_or (replicate n 0) i 0) 0
    go (inl y) = get_or-replicate n i 0 0 (ltb_lt i n y)
    go (inr y) = get_or-eq_default (replicate n 0) 0 (omega (arith, length-replicate {A = ℕ} n 0, ltb_le i n y))

pub holds_none : (lines : ℕ) → HoldsBits (λ c e. false) lines (replicate (lines * line_size) 0)
unfolding bit has
holds_none lines = record {
  size = length-replicate (lines * line_size) 0;
  bytes = λ i. rw (zeros (lines * line_size) i) (omega arith);
  bits = λ c e l k. ap (λ (x : ℕ). has x ((c * line_bits + e) % 8)) (zeros (lines * line_size) ((c * line_bits + e) / 8)) ∙ has_none ((c * line_bits + e) % 8);
}

pub holds_same : {f g : ℕ → ℕ → Bool} {lines : ℕ} {t : List ℕ} → ((c e : ℕ) → c < lines → e < line_bits → f c e ≡ g c e) → HoldsBits f lines t → HoldsBits g lines t
holds_same s h = record { size = h.size; bytes = h.bytes; bits = λ c e l k. h.bits c e l k ∙ s c e l k }

line_bit_lem : (t : List ℕ) (c e : ℕ) → bit (drop (c * line_size) t) e ≡ bit t (c * line_bits + e)
unfolding bit has
line_bit_lem t c e =
    let q : (c * line_bits + e) / 8 ≡ c * line_size + e / 8 = omega arith in
    let r : (c * line_bits + e) % 8 ≡ e % 8 = omega arith in
    rw (q, r) (ap (λ (x : ℕ). has x (e % 8)) (get_or-drop (c * line_size) t (e / 8) 0))

-- the first n lines of a table, and those behind them
pub lines_front : (t : List ℕ) (n c e : ℕ) → c < n → e < line_bits → line_bit (take (n * line_size) t) c e ≡ line_bit t c e
unfolding bit
lines_front t n c e l k =
    ap (λ (x : ℕ). eqb (x / 2 ^ ((c * line_bits + e) % 8) % 2) 1)
    (get_or-take (n * line_size) t ((c * line_bits + e) / 8) 0 (omega (arith, mul-le-mul_right line_size l)))

pub lines_behind : (t : List ℕ) (n c e : ℕ) → line_bit (drop (n * line_size) t) c e ≡ line_bit t (n + c) e
lines_behind t n c e =
    let z : n * line_bits + (c * line_bits + e) ≡ (n + c) * line_bits + e = omega arith in
    line_bit_lem t n (c * line_bits + e) ∙ ap (bit t) z

-- a table whose first n lines hold f at the rows that there are
module _ (f : ℕ → ℕ → Bool) (n rows : ℕ) {g : ℕ → ℕ → Bool} {lines : ℕ} (t : List ℕ) (fits : n ≤ lines) (short : rows ≤ line_bits) (h : HoldsBits g lines t)
    (first : (c e : ℕ) → c < n → g c e ≡ (ltb e rows && f c e)) where
  -- the front of line c
  pub holds_line : (c : ℕ) → c < n → take (bytes_for rows) (drop (c * line_size) t) ≡ bitmap (f c) rows
  holds_line c l =
      bits_bitmap (f c) rows (drop (c * line_size) t)
      (omega (arith, length-drop (c * line_size) t, h.size))
      (λ i. rw (get_or-drop (c * line_size) t i 0) (h.bytes (c * line_size + i)))
      (λ e k. line_bit_lem t c e ∙ h.bits c e (omega arith) (omega arith) ∙ first c e l)

  pub holds_bitmaps : lines_of (bytes_for rows) t n ≡ bitmaps f n rows
  unfolding lines_of bitmaps
  holds_bitmaps = joined_same (λ c. take (bytes_for rows) (drop (c * line_size) t)) (λ c. bitmap (f c) rows) n holds_line

-- a table of one line
module _ (f : ℕ → Bool) (rows : ℕ) (t : List ℕ) (short : rows ≤ line_bits) (h : HoldsBits (within (λ c. f) 1 rows) 1 t) where
  pub holds_bitmap : lines_of (bytes_for rows) t 1 ≡ bitmap f rows
  holds_bitmap =
      holds_bitmaps (λ c. f) 1 rows t (omega arith) short h (λ c e l. ap (λ (b : Bool). b && (ltb e rows && f e)) (ltb_yes c 1 l)) ∙ bitmaps_one f rows
