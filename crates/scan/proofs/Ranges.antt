-- A range as a lowest number and how many follow it.
use Prim.Native.Nat.{ℕ, ◌+◌, ◌-◌, ◌≤◌, ◌<◌}
use native.Mathlib.Omega.{arith}
use mathlib.Core.Path.{◌≡◌, refl}
use mathlib.Core.Bool.{true, ◌&&◌}
use mathlib.Core.List.{List}
use lib.ListN.{length}
use lib.Dec.{leb, ltb, eqb}
use borrow.Author.Tests.{leb-true, eq-eqb, eqb-true, ltb-true}
use Rattle.bools.specs.Bools.{and_parts, eqb_ne}
use Rattle.catalogue.specs.Format.{blank_number}
use Rattle.slots.specs.Slots.{text_limit}
use Rattle.predicate.specs.Kinds.{range_kind, number_blank_kind, equals_kind, contains_kind, text_blank_kind}
use Rattle.predicate.specs.Meaning.{between, low_of, high_of}
use Rattle.predicate.specs.Payload.{range_fits, operand_fits}
use Rattle.numbers.specs.declared.range.Range.{Range}
use Rattle.numbers.specs.Within.{within}
use Rattle.scan.specs.Met.{RangeFor}

-- what an operand that fits its kind is

pub range_fits_lem : (kind : ℕ) (o : List ℕ) → operand_fits kind o ≡ true → kind ≡ range_kind → (length o ≡ 8) × (low_of o ≤ high_of o) × (high_of o < blank_number)
unfolding operand_fits range_fits
range_fits_lem kind o h e =
    let p = and_parts (eqb (length o) 8) (leb (low_of o) (high_of o) && ltb (high_of o) blank_number) (rw (eq-eqb kind range_kind e) at h) in
    let q = and_parts (leb (low_of o) (high_of o)) (ltb (high_of o) blank_number) p.1 in
    (eqb-true (length o) 8 p.0, leb-true (low_of o) (high_of o) q.0, ltb-true (high_of o) blank_number q.1)

pub text_fits : (kind : ℕ) (o : List ℕ) → operand_fits kind o ≡ true → equals_kind ≤ kind → kind ≤ contains_kind → (0 < length o) × (length o ≤ text_limit)
unfolding operand_fits
text_fits kind o h l m =
    let p = and_parts (leb 1 (length o)) (leb (length o) text_limit)
    (rw (eqb_ne kind range_kind (λ e. omega arith), eqb_ne kind number_blank_kind (λ e. omega arith), eqb_ne kind text_blank_kind (λ e. omega arith)) at h) in
    let s : 1 ≤ length o = leb-true 1 (length o) p.0 in
    (omega arith, leb-true (length o) text_limit p.1)

-- what a range asks, and its test
module _ {o : List ℕ} {r : Range} (P : RangeFor o r) (fits : operand_fits range_kind o ≡ true) where
  pub range_means : (n : ℕ) → within r.low r.width n ≡ between (low_of o) (high_of o) n
  range_means n =
      let f = range_fits_lem range_kind o fits refl in
      let top : low_of o + (high_of o - low_of o) ≡ high_of o = omega arith in
      rw (P.low_is, P.width_is, top)
