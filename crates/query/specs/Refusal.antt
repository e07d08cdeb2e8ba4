-- The number of a question's refusal.
use Rattle.std.specs.Prelude.{ℕ, ◌≤◌}
use Rattle.std.proofs.Common.{arith}
use Rattle.query.specs.declared.refusal.Refusal.{Refusal}
use Rattle.query.specs.declared.refusal.Refusal.TheVariants as refusal
use Rattle.query.specs.Format.{member_cut, unknown_tag, empty_group, too_deep, invalid_payload, too_many_predicates, repeated_payload, bytes_after_query}

abbrev pub refusal_number : Refusal → ℕ
refusal_number refusal.MemberCut = member_cut
refusal_number refusal.UnknownTag = unknown_tag
refusal_number refusal.EmptyGroup = empty_group
refusal_number refusal.TooDeep = too_deep
refusal_number refusal.InvalidPayload = invalid_payload
refusal_number refusal.TooManyPredicates = too_many_predicates
refusal_number refusal.RepeatedPayload = repeated_payload
refusal_number refusal.BytesAfterQuery = bytes_after_query

-- "7 to 14"
pub refusal_number_range : (e : Refusal) → (member_cut ≤ refusal_number e) × (refusal_number e ≤ bytes_after_query)
refusal_number_range refusal.MemberCut = (omega arith, omega arith)
refusal_number_range refusal.UnknownTag = (omega arith, omega arith)
refusal_number_range refusal.EmptyGroup = (omega arith, omega arith)
refusal_number_range refusal.TooDeep = (omega arith, omega arith)
refusal_number_range refusal.InvalidPayload = (omega arith, omega arith)
refusal_number_range refusal.TooManyPredicates = (omega arith, omega arith)
refusal_number_range refusal.RepeatedPayload = (omega arith, omega arith)
refusal_number_range refusal.BytesAfterQuery = (omega arith, omega arith)
