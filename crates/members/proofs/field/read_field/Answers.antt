-- `read_field` meets its contract: each return by the law of its path.
use Rattle.members.proofs.Paths.{field_cut_lem, field_group, field_is_sound, field_predicate, field_unknown}
use Rattle.query.specs.Format.{depth_of}
use Rattle.query.specs.declared.refusal.Refusal.TheVariants as refusal
use Rattle.std.proofs.Common.{arith, ◌≡◌}
use Rattle.std.proofs.lemmas.Result.{err_from_is_err_and}
use mathlib.Core.Logic.{inl, inr}
use Rattle.members.proofs.field.read_field.Goals as goal

pub returns-in_err-field-clause-exact : goal.returns-in_err-field-clause-exact
returns-in_err-field-clause-exact c =
    let a = c.args in
    let cut : c.in_err-field.field-0.0 ≡ refusal.MemberCut = grind arith in
    let p = err_from_is_err_and c.from_residual.result c.from_residual.ensures.1 in
    rw (p.1, p.2, cut) (field_cut_lem a.tags.now a.earlier.q.now a.earlier.offsets.now a.at a.end (depth_of a.allowed) a.earlier.n _ c.read_header.ensures.0 c.in_err-field.ensures.ok_part)

pub returns-in-80-clause-exact : goal.returns-in-80-clause-exact
returns-in-80-clause-exact c =
    let a = c.args in
    field_predicate a.tags.now a.earlier.q.now a.earlier.offsets.now a.at a.end (depth_of a.allowed) a.earlier.n _ c.read_header.ensures.0 _ c.in_ok-field.ensures.ok_part _ c.in-80.is c.predicate_field.ensures

pub returns-in-80-clause-sound : goal.returns-in-80-clause-sound
returns-in-80-clause-sound c =
    let a = c.args in
    field_is_sound a.tags.now a.earlier.q.now a.earlier.offsets.now a.at a.end (depth_of a.allowed) a.earlier.n _ (returns-in-80-clause-exact c)

pub returns-in-65-clause-exact : goal.returns-in-65-clause-exact
returns-in-65-clause-exact c =
    let a = c.args in
    field_group a.tags.now a.earlier.q.now a.earlier.offsets.now a.at a.end (depth_of a.allowed) a.earlier.n _ c.read_header.ensures.0 _ c.in_ok-field.ensures.ok_part (λ e. elim c.in-65.is [ inl f ↦ omega arith | inr f ↦ omega arith ]) _ c.in-65.is c.group_field.ensures

pub returns-in-65-clause-sound : goal.returns-in-65-clause-sound
returns-in-65-clause-sound c =
    let a = c.args in
    field_is_sound a.tags.now a.earlier.q.now a.earlier.offsets.now a.at a.end (depth_of a.allowed) a.earlier.n _ (returns-in-65-clause-exact c)

pub returns-in_default-clause-exact : goal.returns-in_default-clause-exact
returns-in_default-clause-exact c =
    let a = c.args in
    field_unknown a.tags.now a.earlier.q.now a.earlier.offsets.now a.at a.end (depth_of a.allowed) a.earlier.n _ c.read_header.ensures.0 _ c.in_ok-field.ensures.ok_part (λ e. grind arith) (λ e. grind arith) (λ e. grind arith)
