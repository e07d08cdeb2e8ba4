-- `read_first` meets its contract: each return is the case of `first_field_of` that its tests choose.
use Rattle.catalogue.proofs.Counts.{first_counts}
use Rattle.catalogue.specs.Decode.{counts_at, first_field_of}
use Rattle.catalogue.specs.Format.{column_limit}
use Rattle.fields.proofs.Tests.{tests}
use Rattle.std.proofs.Common.{arith, refl, inl, inr}
use Rattle.std.specs.Prelude.{◌≡◌, ◌≤◌, ◌<◌, ◌⊎◌}
use Rattle.std.proofs.lemmas.Result.{err_from_is_err_and}
use borrow.Author.Tests.{le-leb}
use Rattle.catalogue.specs.declared.refusal.Refusal.TheVariants as refusal
use Rattle.catalogue.proofs.first.read_first.Goals as goal
use Rattle.catalogue.proofs.first.read_first.Goals.{then-tag-ne-TAG-via-then-tag-ne-TAG, then-tag-ne-TAG-via-else-tag-ne-TAG+then-end-start-ne-SIZE, then-rows-gt-LIMIT-via-then-rows-gt-LIMIT, then-rows-gt-LIMIT-via-else-rows-gt-LIMIT+then-not-contains}

pub returns-in_err-tag : goal.returns-in_err-tag
unfolding first_field_of
returns-in_err-tag c =
    let read = rw c.in_err-tag.ensures.ok_part at c.read_header.ensures in
    let cut : c.in_err-tag.field-0.0 ≡ refusal.FieldCut = grind arith in
    let p = err_from_is_err_and c.from_residual.result c.from_residual.ensures.1 in
    rw (p.1, p.2, ← read.0, cut) (refl, tt)

pub returns-then-tag-ne-TAG : goal.returns-then-tag-ne-TAG
unfolding first_field_of
returns-then-tag-ne-TAG c =
    let read = rw c.in_ok-tag.ensures.ok_part at c.read_header.ensures in (
      elim c.then-tag-ne-TAG.branch [
        | then-tag-ne-TAG-via-then-tag-ne-TAG w ↦ search (tests, ← read.0)
        | then-tag-ne-TAG-via-else-tag-ne-TAG+then-end-start-ne-SIZE w ↦ search (tests, ← read.0)
      ],
      tt,
    )

pub returns-then-rows-gt-LIMIT : goal.returns-then-rows-gt-LIMIT
unfolding first_field_of counts_at
returns-then-rows-gt-LIMIT c =
    let read = rw c.in_ok-tag.ensures.ok_part at c.read_header.ensures in (
      elim c.then-rows-gt-LIMIT.branch [
        | then-rows-gt-LIMIT-via-then-rows-gt-LIMIT w ↦ search (tests, ← read.0, ← c.two_bytes-rows.ensures.0)
        | then-rows-gt-LIMIT-via-else-rows-gt-LIMIT+then-not-contains w ↦
            let outside : (c.from-columns.result < 1) ⊎ (column_limit < c.from-columns.result) = grind arith in
            elim outside [
              | inl low ↦ search (tests, ← read.0, ← c.two_bytes-rows.ensures.0, ← c.from-columns.ensures)
              | inr high ↦
                  let least = le-leb 1 c.from-columns.result (omega arith) in
                  search (tests, ← read.0, ← c.two_bytes-rows.ensures.0, ← c.from-columns.ensures, least)
            ]
      ],
      tt,
    )

pub returns : goal.returns
returns c =
    let read = rw c.in_ok-tag.ensures.ok_part at c.read_header.ensures in
    let inside : (1 ≤ c.from-columns.result) × (c.from-columns.result ≤ column_limit) = grind arith in
    (rw (← read.0) (first_counts _ _ _ _ c.if-tag-ne-TAG.false c.if-end-start-ne-SIZE.false c.two_bytes-rows.ensures.0 c.from-columns.ensures (omega arith) inside.0 inside.1), omega (arith, read.1, inside))
