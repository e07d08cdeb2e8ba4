-- A table that holds bits at the rows that there are has zeros behind them.
use Prim.Native.Nat.{ℕ, ◌*◌, ◌≤◌, ◌<◌}
use native.Mathlib.Omega.{arith}
use mathlib.Core.Path.{◌≡◌, sym, ap, ◌∙◌}
use mathlib.Core.Bool.{Bool, true, false, ◌&&◌}
use mathlib.Core.Logic.{◌⊎◌, inl, inr}
use mathlib.Core.List.{List}
use lib.Dec.{ltb}
use borrow.Author.Tests.{le-ltb}
use Rattle.bools.specs.Bools.{which, ltb_yes, ltb_lt}
use Rattle.bitmaps.specs.Sums.{digit, count_of}
use Rattle.bitmaps.proofs.SumLaws.{sum_same, sum_below_lem, count_same}
use Rattle.bitmaps.specs.Bitmap.{bytes_for, ones_in}
use Rattle.bitmaps.proofs.BitmapLaws.{bitmaps_ones}
use Rattle.bitmaps.specs.Table.{line_bits, lines_of, HoldsBits}
use Rattle.bitmaps.proofs.TableLaws.{holds_bitmaps}
use Rattle.counts.specs.Whole.{whole_words, NoneBehind}

module _ (f : ℕ → ℕ → Bool) (n rows : ℕ) {g : ℕ → ℕ → Bool} {lines : ℕ} (t : List ℕ) (fits : n ≤ lines) (short : rows ≤ line_bits) (h : HoldsBits g lines t)
    (first : (c e : ℕ) → c < n → g c e ≡ (ltb e rows && f c e)) where
  -- the rows up to the end of a word, and f at those that there are
  abbrev further : ℕ
  further = whole_words (bytes_for rows) * 8

  abbrev there : ℕ → ℕ → Bool
  there c e = ltb e rows && f c e

  as_far : (c e : ℕ) → c < n → g c e ≡ (ltb e further && there c e)
  as_far c e l = first c e l ∙ go (which (ltb e rows)) (which (ltb e further))
    where
      go : (ltb e rows ≡ true) ⊎ (ltb e rows ≡ false) → (ltb e further ≡ true) ⊎ (ltb e further ≡ false) → there c e ≡ (ltb e further && there c e)
      go (inl y) z = rw (y, ltb_yes e further (omega (arith, ltb_lt e rows y)))
      go (inr y) (inl z) = rw (y, z)
      go (inr y) (inr z) = rw (y, z)

  counted : (c : ℕ) → count_of (there c) further ≡ count_of (f c) rows
  counted c =
      sum_below_lem (λ e. digit (there c e)) rows further (omega arith) (λ e l k. rw (le-ltb e rows l))
      ∙ count_same (there c) (f c) rows (λ e l. rw (ltb_yes e rows l))

  pub none_behind : NoneBehind (bytes_for rows) n t
  none_behind =
      let z : bytes_for further ≡ whole_words (bytes_for rows) = omega arith in
      ap (λ (k : ℕ). ones_in (lines_of k t n)) (sym z)
      ∙ ap ones_in (holds_bitmaps there n further t fits (omega arith) h as_far)
      ∙ bitmaps_ones there n further
      ∙ sum_same (λ c. count_of (there c) further) (λ c. count_of (f c) rows) n (λ c l. counted c)
      ∙ sym (bitmaps_ones f n rows)
      ∙ sym (ap ones_in (holds_bitmaps f n rows t fits short h first))
