-- What a valid payload asks can be typed, and its operand takes at most 23 bytes.
use Prim.Native.Nat.{ℕ, ◌≤◌}
use native.Mathlib.Omega.{arith}
use mathlib.Core.Path.{◌≡◌, refl}
use mathlib.Core.Bool.{Bool, true, false, ◌&&◌, cond}
use mathlib.Core.Logic.{◌⊎◌, inl, inr}
use mathlib.Core.List.{List}
use lib.ListN.{length, get_or}
use lib.Dec.{leb, eqb}
use borrow.Author.Tests.{ne_eqb, eqb-true, leb-true}
use Rattle.bools.specs.Bools.{and_left, and_right, same?}
use Rattle.catalogue.specs.Format.{number_tag, text_tag}
use Rattle.slots.specs.Slots.{text_limit}
use Rattle.predicate.specs.Kinds.{range_kind, number_blank_kind, text_blank_kind}
use Rattle.predicate.specs.Meaning.{range_size}
use Rattle.predicate.specs.Payload.{kind_fits, range_fits, operand_fits}
use Rattle.syntax.specs.Spelling.{blank_kind, TestTypable}

-- the kind and the column

fits_small : (tag kind : ℕ) → kind_fits tag kind ≡ true → kind ≤ text_blank_kind
unfolding kind_fits
fits_small tag kind h = go (leb kind number_blank_kind) refl h
  where
    go : (b : Bool) → leb kind number_blank_kind ≡ b → cond b (eqb tag number_tag) (leb kind text_blank_kind && eqb tag text_tag) ≡ true → kind ≤ text_blank_kind
    go true e g = let l : kind ≤ 1 = leb-true kind 1 e in omega arith
    go false e g = leb-true kind 5 (and_left _ _ g)

fits_number : (tags : List ℕ) (column : ℕ) → kind_fits (get_or tags column 0) number_blank_kind ≡ true → number_blank_kind ≡ blank_kind tags column
unfolding kind_fits
fits_number tags column h = rw (eqb-true (get_or tags column 0) number_tag h)

fits_text : (tags : List ℕ) (column : ℕ) → kind_fits (get_or tags column 0) text_blank_kind ≡ true → text_blank_kind ≡ blank_kind tags column
unfolding kind_fits
fits_text tags column h = rw (eqb-true (get_or tags column 0) text_tag h)

-- the kind and the operand

module _ (o : List ℕ) where
  fits_range : operand_fits range_kind o ≡ true → length o ≡ range_size
  unfolding operand_fits range_fits
  fits_range h = eqb-true (length o) range_size (and_left _ _ h)

  fits_none : operand_fits number_blank_kind o ≡ true → length o ≡ 0
  unfolding operand_fits
  fits_none h = eqb-true (length o) 0 h

  fits_none_text : operand_fits text_blank_kind o ≡ true → length o ≡ 0
  unfolding operand_fits
  fits_none_text h = eqb-true (length o) 0 h

  fits_some : (kind : ℕ) → (kind ≡ range_kind → ⊥) → (kind ≡ number_blank_kind → ⊥) → (kind ≡ text_blank_kind → ⊥) → operand_fits kind o ≡ true → length o ≤ text_limit
  unfolding operand_fits
  fits_some kind a b c h = leb-true (length o) text_limit (and_right (leb 1 (length o)) _ (rw (ne_eqb kind range_kind a, ne_eqb kind number_blank_kind b, ne_eqb kind text_blank_kind c) at h))

pub test_valid : (tags : List ℕ) (column kind : ℕ) (o : List ℕ) → kind_fits (get_or tags column 0) kind ≡ true → operand_fits kind o ≡ true
    → TestTypable tags column kind o × (length o ≤ text_limit)
test_valid tags column kind o f g = go (same? kind range_kind) (same? kind number_blank_kind) (same? kind text_blank_kind)
  where
    go : (kind ≡ range_kind) ⊎ (kind ≡ range_kind → ⊥) → (kind ≡ number_blank_kind) ⊎ (kind ≡ number_blank_kind → ⊥) → (kind ≡ text_blank_kind) ⊎ (kind ≡ text_blank_kind → ⊥)
        → TestTypable tags column kind o × (length o ≤ text_limit)
    go (inl e) b c = let s : length o ≡ 8 = fits_range o (rw e at g) in (inl (e, s), omega arith)
    go (inr a) (inl e) c =
        let s : length o ≡ 0 = fits_none o (rw e at g) in
        let k : 1 ≡ blank_kind tags column = fits_number tags column (rw e at f) in
        (inr (inl (rw e k, s)), omega arith)
    go (inr a) (inr b) (inl e) =
        let s : length o ≡ 0 = fits_none_text o (rw e at g) in
        let k : 5 ≡ blank_kind tags column = fits_text tags column (rw e at f) in
        (inr (inl (rw e k, s)), omega arith)
    go (inr a) (inr b) (inr c) =
        let l = fits_small (get_or tags column 0) kind f in
        (inr (inr (omega (arith, a, b, c), omega (arith, a, b, c))), fits_some o kind a b c g)
