-- A condition is valid, as document 01 says it of its column, kind and operand, exactly if its payload passes the check: both ways.
use Prim.Native.Nat.{ℕ, ◌≤◌, ◌<◌}
use native.Mathlib.Omega.{arith}
use mathlib.Core.Path.{◌≡◌, refl}
use mathlib.Core.Bool.{Bool, true, false, ◌&&◌, cond, false≢true}
use mathlib.Core.Logic.{◌⊎◌, inl, inr}
use mathlib.Core.List.{List, []}
use lib.ListN.{length, get_or}
use lib.Dec.{leb, ltb, eqb}
use borrow.Author.Tests.{le-leb, lt-leb, lt-ltb, eq-eqb, ne_eqb, leb-true, leb-false, ltb-true, eqb-true}
use Rattle.bools.specs.Bools.{and_left, and_right}
use Rattle.bools.specs.Bools.{same?}
use Rattle.catalogue.specs.Format.{number_tag, text_tag, blank_number}
use Rattle.slots.specs.Slots.{text_limit}
use Rattle.catalogue.specs.Catalogue.{Catalogue, Column, numbers, texts}
use Rattle.predicate.specs.Kinds.{plain_kind}
use Rattle.predicate.specs.Meaning.{Predicate, range_size, low_of, high_of, column_asked}
use Rattle.predicate.specs.Payload.{payload_head, tag_of, tags_of, kind_fits, range_fits, operand_fits, valid_payload}
use Rattle.predicate.proofs.PayloadLaws.{tags_length, tags_at}
use Rattle.query.specs.Decode.{payload_of}
use Rattle.query.specs.WellFormed.{IsRange, IsText, Suits, ValidPredicate}

module _ (kind : ℕ) (o : List ℕ) where
  suits_passes : (x : Column) → Suits x kind o → (kind_fits (tag_of x) kind ≡ true) × (operand_fits kind o ≡ true)
  unfolding kind_fits operand_fits range_fits
  suits_passes (numbers ns) (inl (k, (size, order, high))) =
      rw (k, eq-eqb (length o) range_size size, le-leb (low_of o) (high_of o) order, lt-ltb (high_of o) blank_number high) (refl, refl)
  suits_passes (numbers ns) (inr (k, size)) = rw (k, eq-eqb (length o) 0 size) (refl, refl)
  suits_passes (texts ts) (inl (from, to, (some, few))) =
      rw (
        lt-leb kind 1 (omega arith),
        le-leb kind 5 (omega arith),
        ne_eqb kind 0 (λ e. omega arith),
        ne_eqb kind 1 (λ e. omega arith),
        ne_eqb kind 5 (λ e. omega arith),
        le-leb 1 (length o) some,
        le-leb (length o) text_limit few,
      )
      (refl, refl)
  suits_passes (texts ts) (inr (k, size)) = rw (k, eq-eqb (length o) 0 size) (refl, refl)

  number_kind : kind_fits number_tag kind ≡ true → kind ≤ 1
  unfolding kind_fits
  number_kind = go (leb kind 1) refl
    where
      go : (b : Bool) → leb kind 1 ≡ b → cond b true (leb kind 5 && false) ≡ true → kind ≤ 1
      go true e h = leb-true _ _ e
      go false e h = absurd (false≢true (and_right (leb kind 5) false h))

  text_kind : kind_fits text_tag kind ≡ true → (1 < kind) × (kind ≤ 5)
  unfolding kind_fits
  text_kind = go (leb kind 1) refl
    where
      go : (b : Bool) → leb kind 1 ≡ b → cond b false (leb kind 5 && true) ≡ true → (1 < kind) × (kind ≤ 5)
      go true e h = absurd (false≢true h)
      go false e h = (leb-false _ _ e, leb-true _ _ (and_left (leb kind 5) true h))

  module _ (passes : operand_fits kind o ≡ true) where
    range_operand : kind ≡ 0 → IsRange o
    unfolding operand_fits range_fits
    range_operand e =
        let h : (eqb (length o) range_size && (leb (low_of o) (high_of o) && ltb (high_of o) blank_number)) ≡ true = rw (eq-eqb kind 0 e) at passes in
        let r = and_right (eqb (length o) range_size) (leb (low_of o) (high_of o) && ltb (high_of o) blank_number) h in
        (eqb-true _ _ (and_left _ _ h), leb-true _ _ (and_left _ _ r), ltb-true _ _ (and_right (leb (low_of o) (high_of o)) _ r))

    number_blank_operand : kind ≡ 1 → length o ≡ 0
    unfolding operand_fits
    number_blank_operand e = eqb-true _ _ (rw e at passes)

    text_blank_operand : kind ≡ 5 → length o ≡ 0
    unfolding operand_fits
    text_blank_operand e = eqb-true _ _ (rw e at passes)

    text_operand : 1 < kind → kind < 5 → IsText o
    unfolding operand_fits
    text_operand l m =
        let h : (leb 1 (length o) && leb (length o) text_limit) ≡ true =
        rw (ne_eqb kind 0 (λ e. omega arith), ne_eqb kind 1 (λ e. omega arith), ne_eqb kind 5 (λ e. omega arith)) at passes in
        (leb-true _ _ (and_left _ _ h), leb-true _ _ (and_right (leb 1 (length o)) _ h))

    passes_suits : (x : Column) → kind_fits (tag_of x) kind ≡ true → Suits x kind o
    passes_suits (numbers ns) h = go (same? kind 0)
      where
        go : (kind ≡ 0) ⊎ (kind ≡ 0 → ⊥) → Suits (numbers ns) kind o
        go (inl e) = inl (e, range_operand e)
        go (inr n) = let l = number_kind h in let e : kind ≡ 1 = omega arith in inr (e, number_blank_operand e)
    passes_suits (texts ts) h = go (same? kind 5)
      where
        go : (kind ≡ 5) ⊎ (kind ≡ 5 → ⊥) → Suits (texts ts) kind o
        go (inl e) = inr (e, text_blank_operand e)
        go (inr n) = let l = text_kind h in inl (omega arith, omega arith, text_operand (omega arith) (omega arith))

module _ (c : Catalogue) (p : Predicate) where
  pub valid_passes : ValidPredicate c p → valid_payload (tags_of c) (payload_of p) ≡ true
  unfolding valid_payload
  valid_passes (inside, suits) =
      let s = suits_passes (plain_kind p.kind) p.operand (column_asked c p) suits in
      rw (le-leb payload_head (length (payload_of p)) (omega arith), tags_length c.columns, lt-ltb _ _ inside, tags_at c.columns p.column (numbers []) inside, s.0, s.1)

  pub passes_valid : valid_payload (tags_of c) (payload_of p) ≡ true → ValidPredicate c p
  unfolding valid_payload
  passes_valid h =
      let a = and_right (leb payload_head (length (payload_of p))) _ h in
      let j : p.column < length (tags_of c) = ltb-true _ _ (and_left _ _ a) in
      let i : p.column < length c.columns = rw (tags_length c.columns) at j in
      let r = and_right (ltb p.column (length (tags_of c))) _ a in
      let f : kind_fits (get_or (tags_of c) p.column 0) (plain_kind p.kind) ≡ true = and_left _ _ r in
      let k : kind_fits (tag_of (column_asked c p)) (plain_kind p.kind) ≡ true = rw (tags_at c.columns p.column (numbers []) i) at f in
      (i, passes_suits (plain_kind p.kind) p.operand (and_right (kind_fits (get_or (tags_of c) p.column 0) (plain_kind p.kind)) _ r) (column_asked c p) k)
