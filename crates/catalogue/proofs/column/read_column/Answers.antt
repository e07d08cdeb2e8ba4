-- `read_column` meets its contract: each return is the case of `column_of` that its tests choose.
use Rattle.catalogue.specs.Decode.{column_of}
use Rattle.catalogue.specs.Format.{number_tag, text_tag}
use Rattle.fields.proofs.Tests.{tests}
use Rattle.std.proofs.Common.{arith, refl, sym}
use Rattle.std.proofs.lemmas.Result.{err_from_is_err_and}
use Rattle.std.specs.Prelude.{◌≡◌}
use borrow.Author.Tests.{ne_eqb}
use Rattle.catalogue.specs.declared.refusal.Refusal.TheVariants as refusal
use Rattle.catalogue.proofs.column.read_column.Goals as goal
use Rattle.catalogue.proofs.column.read_column.Goals.{else-tag-eq-NUMBER_TAG-via-then-tag-eq-NUMBER_TAG+else-size-rows, else-tag-eq-NUMBER_TAG-via-else-tag-eq-NUMBER_TAG, then-tag-ne-TEXT_TAG-via-then-tag-ne-TEXT_TAG, then-tag-ne-TEXT_TAG-via-else-tag-ne-TEXT_TAG+then-size-rows-2}

pub returns-in_err-tag : goal.returns-in_err-tag
unfolding column_of
returns-in_err-tag c =
    let read = rw c.in_err-tag.ensures.ok_part at c.read_header.ensures in
    let cut : c.in_err-tag.field-0.0 ≡ refusal.FieldCut = grind arith in
    let p = err_from_is_err_and c.from_residual.result c.from_residual.ensures.1 in
    rw (p.1, p.2, ← read.0, cut) (refl, tt)

pub returns-then-size-rows : goal.returns-then-size-rows
unfolding column_of
returns-then-size-rows c =
    let read = rw c.in_ok-tag.ensures.ok_part at c.read_header.ensures in
    (search (tests, ← read.0), omega (arith, read.1))

pub returns-then-tag-ne-TEXT_TAG : goal.returns-then-tag-ne-TEXT_TAG
unfolding column_of
returns-then-tag-ne-TEXT_TAG c =
    let read = rw c.in_ok-tag.ensures.ok_part at c.read_header.ensures in (
      elim c.else-tag-eq-NUMBER_TAG.branch [
        | else-tag-eq-NUMBER_TAG-via-then-tag-eq-NUMBER_TAG+else-size-rows w ↦
            let other = ne_eqb c.in_ok-tag.field-0.tag text_tag (λ e. omega arith) in search (tests, ← read.0, other)
        | else-tag-eq-NUMBER_TAG-via-else-tag-eq-NUMBER_TAG w ↦
            elim c.then-tag-ne-TEXT_TAG.branch [
              | then-tag-ne-TEXT_TAG-via-then-tag-ne-TEXT_TAG v ↦ search (tests, ← read.0)
              | then-tag-ne-TEXT_TAG-via-else-tag-ne-TEXT_TAG+then-size-rows-2 v ↦ search (tests, ← read.0)
            ]
      ],
      tt,
    )

pub returns-then-not-slots_are_valid : goal.returns-then-not-slots_are_valid
unfolding column_of
returns-then-not-slots_are_valid c =
    let read = rw c.in_ok-tag.ensures.ok_part at c.read_header.ensures in
    let other = ne_eqb c.in_ok-tag.field-0.tag number_tag (λ e. omega arith) in
    (search (tests, ← read.0, other, ← c.if-not-slots_are_valid.ensures), tt)

pub returns : goal.returns
unfolding column_of
returns c =
    let read = rw c.in_ok-tag.ensures.ok_part at c.read_header.ensures in
    let other = ne_eqb c.in_ok-tag.field-0.tag number_tag (λ e. omega arith) in
    (search (tests, ← read.0, other, ← c.if-not-slots_are_valid.ensures), (omega (arith, read.1), omega (arith, read.1), sym c.if-not-slots_are_valid.ensures))
