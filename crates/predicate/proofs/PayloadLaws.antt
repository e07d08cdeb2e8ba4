-- What a valid payload gives.
use Prim.Native.Nat.{ℕ, zero, suc, ◌≤◌, ◌<◌}
use native.Mathlib.Omega.{arith}
use mathlib.Core.Path.{◌≡◌, refl, ap}
use mathlib.Core.Bool.{true}
use mathlib.Core.List.{List, [], ◌∷◌}
use lib.ListN.{length, get_or}
use lib.Dec.{ltb, leb}
use borrow.Author.Tests.{eq-eqb, ltb-true, leb-true, eqb-true}
use Rattle.catalogue.specs.Catalogue.{Column, numbers, texts}
use Rattle.catalogue.specs.InPlace.{Shows}
use Rattle.predicate.specs.Kinds.{plain_kind}
use Rattle.predicate.specs.Outcome.{HasRange}
use Rattle.predicate.specs.Payload.{tag_of, tags_in, payload_head, column_byte, kind_byte, operand_of, kind_fits, range_fits, operand_fits, valid_payload}
use Rattle.bools.specs.Bools.{and_left, and_right}

-- over the tags alone

pub record Valid (tags payload : List ℕ) : Type 0 where
  pub head : payload_head ≤ length payload
  pub column_in : column_byte payload < length tags
  pub kind_fits_lem : kind_fits (get_or tags (column_byte payload) 0) (plain_kind (kind_byte payload)) ≡ true
  pub operand_fits_lem : operand_fits (plain_kind (kind_byte payload)) (operand_of payload) ≡ true

pub range_size_lem : (kind : ℕ) (o : List ℕ) → operand_fits kind o ≡ true → HasRange kind o
unfolding operand_fits range_fits
range_size_lem kind o h e =
    let size : length o ≡ 8 = eqb-true _ _ (and_left _ _ (rw (eq-eqb kind 0 e) at h)) in omega arith

pub valid_payload_lem : (tags payload : List ℕ) → valid_payload tags payload ≡ true → Valid tags payload
unfolding valid_payload
valid_payload_lem tags payload h =
    let after-head = and_right (leb 2 (length payload)) _ h in
    let after-column = and_right (ltb (column_byte payload) (length tags)) _ after-head in
    let after-kind = and_right (kind_fits (get_or tags (column_byte payload) 0) (plain_kind (kind_byte payload))) _ after-column in
    record {
      head = leb-true 2 (length payload) (and_left _ _ h);
      column_in = ltb-true _ _ (and_left _ _ after-head);
      kind_fits_lem = and_left _ _ after-column;
      operand_fits_lem = after-kind;
    }

-- and over the catalogue whose tags they are

pub tags_length : (cs : List Column) → length (tags_in cs) ≡ length cs
unfolding tags_in
tags_length [] = refl
tags_length (c ∷ cs) = ap suc (tags_length cs)

pub tags_at : (cs : List Column) (k : ℕ) (other : Column) → k < length cs → get_or (tags_in cs) k 0 ≡ tag_of (get_or cs k other)
unfolding tags_in
tags_at [] k other h = absurd (omega arith)
tags_at (c ∷ cs) zero other h = refl
tags_at (c ∷ cs) (suc k) other h = tags_at cs k other (omega arith)

-- a column that the bytes show has its tag there
pub shown_tag : (b : List ℕ) (rows tag start : ℕ) (c : Column) → Shows b rows tag start c → tag ≡ tag_of c
shown_tag b rows tag start (numbers ns) s = s.0
shown_tag b rows tag start (texts ts) s = s.0
