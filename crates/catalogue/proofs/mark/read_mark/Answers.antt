-- `read_mark` meets its contract: each return is the case of `mark_field_at` that its tests choose.
use Rattle.catalogue.proofs.MarkLaws.{mark_whole}
use Rattle.catalogue.specs.Mark.{mark_field_at, mark_field_of}
use Rattle.fields.proofs.Tests.{tests}
use Rattle.std.proofs.Common.{arith, sym, ◌∙◌}
use Rattle.std.proofs.lemmas.Result.{err_from_is_err_and}
use Rattle.std.specs.Prelude.{◌≡◌}
use Rattle.catalogue.specs.declared.refusal.Refusal.TheVariants as refusal
use Rattle.catalogue.proofs.mark.read_mark.Goals as goal
use Rattle.catalogue.proofs.mark.read_mark.Goals.{then-end-start-via-then-end-start, then-end-start-via-else-end-start+then-has_stray_bit}

pub returns-then-at-b : goal.returns-then-at-b
unfolding mark_field_at
returns-then-at-b c = (search tests, tt)

pub returns-then-b-at-ne-TAG : goal.returns-then-b-at-ne-TAG
unfolding mark_field_at
returns-then-b-at-ne-TAG c = (search tests, tt)

pub returns-in_err-start : goal.returns-in_err-start
unfolding mark_field_at mark_field_of
returns-in_err-start c =
    let read = rw c.in_err-start.ensures.ok_part at c.read_header.ensures in
    let cut : c.in_err-start.field-0.0 ≡ refusal.FieldCut = grind arith in
    let p = err_from_is_err_and c.from_residual.result c.from_residual.ensures.1 in
    rw (p.1, p.2, cut) (search (tests, ← read.0), tt)

pub returns-then-end-start : goal.returns-then-end-start
unfolding mark_field_at mark_field_of
returns-then-end-start c =
    let read = rw c.in_ok-start.ensures.ok_part at c.read_header.ensures in (
      elim c.then-end-start.branch [
        | then-end-start-via-then-end-start w ↦ search (tests, ← read.0, ← c.bytes_for.ensures)
        | then-end-start-via-else-end-start+then-has_stray_bit w ↦
            search (tests, ← read.0, ← c.bytes_for.ensures, sym w.has_stray_bit.ensures ∙ w.if-has_stray_bit.true)
      ],
      tt,
    )

pub returns-then-end-b : goal.returns-then-end-b
unfolding mark_field_at mark_field_of
returns-then-end-b c =
    let read = rw c.in_ok-start.ensures.ok_part at c.read_header.ensures in
    (search (tests, ← read.0, ← c.bytes_for.ensures, sym c.has_stray_bit.ensures ∙ c.if-has_stray_bit.false), tt)

pub returns : goal.returns
returns c =
    let read = rw c.in_ok-start.ensures.ok_part at c.read_header.ensures in
    (mark_whole _ _ _ _ read.0 c.if-at-b.false c.if-b-at-ne-TAG.false (c.if-end-start.false ∙ c.bytes_for.ensures) (sym c.has_stray_bit.ensures ∙ c.if-has_stray_bit.false) c.if-end-b.false, omega (arith, read.1, c.bytes_for.ensures))
