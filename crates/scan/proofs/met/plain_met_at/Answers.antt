-- `plain_met_at` meets its contract: each leaf answers as the column has it.
use Rattle.predicate.specs.Kinds.{number_blank_kind}
use Rattle.scan.proofs.Shown.{blanks_met, is_number, is_text, number_blanks_met, operand_asked, range_asked, range_met, sifted_met}
use Rattle.std.proofs.Common.{arith, ◌∙◌}
use Rattle.std.specs.Prelude.{◌<◌}
use Rattle.scan.proofs.met.plain_met_at.Goals as goal

pub range_of-range-requires : goal.range_of-range-requires
range_of-range-requires c = range_asked _ _ _ c.plain_kind-plain.ensures c.requires c.in-0.is

pub numbers_within-requires : goal.numbers_within-requires
numbers_within-requires c = let e = c.in-0.is in is_number _ _ c.plain_kind-plain.ensures c.requires.0 (omega arith)

pub returns-in-0 : goal.returns-in-0
returns-in-0 c =
    let k = c.plain_kind-plain.ensures in
    let e = c.in-0.is in
    range_met k _ c.range_of-range.ensures (range_asked _ _ _ k c.requires e) e c.numbers_within.ensures

pub numbers_blank-requires : goal.numbers_blank-requires
numbers_blank-requires c = let e = c.in-1.is in is_number _ _ c.plain_kind-plain.ensures c.requires.0 (omega arith)

pub returns-in-1 : goal.returns-in-1
returns-in-1 c = number_blanks_met c.plain_kind-plain.ensures _ c.in-1.is c.numbers_blank.ensures

pub texts_blank-requires : goal.texts_blank-requires
texts_blank-requires c = let e = c.in-5.is in is_text _ _ c.plain_kind-plain.ensures c.requires.0 (omega arith)

pub returns-in-5 : goal.returns-in-5
returns-in-5 c = blanks_met c.plain_kind-plain.ensures _ c.in-5.is c.texts_blank.ensures

pub sift-may-requires : goal.sift-may-requires
sift-may-requires c =
    let k = c.plain_kind-plain.ensures in
    let l : number_blank_kind < c.plain_kind-plain.result = omega arith in
    let o = operand_asked _ _ _ k c.requires l (λ e. omega arith) in
    (is_text _ _ k c.requires.0 l, omega arith, o.0, o.1, o.2)

pub left-requires : goal.left-requires
left-requires c = c.sift-may.ensures.within

pub texts_that_pass-requires : goal.texts_that_pass-requires
texts_that_pass-requires c = c.left.ensures.1 ∙ is_text _ _ c.plain_kind-plain.ensures c.requires.0 (omega arith)

pub returns-in_default : goal.returns-in_default
returns-in_default c =
    let e = c.left.ensures in
    sifted_met c.plain_kind-plain.ensures _ _ (omega arith) c.sift-may.ensures (rw (e.0, e.2, e.3, e.4) at c.texts_that_pass.ensures)
