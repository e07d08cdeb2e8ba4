-- `operand_fits` meets its contract: each return is the case of `operand_fits` that its tests choose.
use Rattle.std.proofs.Common.{◌≡◌, ◌&&◌, leb, length, arith, inl, inr, rules}
use Rattle.fields.proofs.Tests.{tests}
use Rattle.predicate.specs.Payload.{operand_fits}
use Rattle.payload.proofs.operand_fits.Goals as goal

pub returns-in-0 : goal.returns-in-0
unfolding operand_fits
returns-in-0 c = search (tests, c.in-0.is, c.range_fits.ensures)

pub returns-in-1 : goal.returns-in-1
unfolding operand_fits
returns-in-1 c = elim c.in-1.is [ inl e ↦ rw e c.is_empty.ensures | inr e ↦ rw e c.is_empty.ensures ]

pub returns-in_default : goal.returns-in_default
unfolding operand_fits
returns-in_default c =
    let range : c.args.kind ≡ 0 → ⊥ = λ e. omega arith in
    let number : c.args.kind ≡ 1 → ⊥ = λ e. grind arith in
    let text : c.args.kind ≡ 5 → ⊥ = λ e. grind arith in
    let within : c.contains.result ≡ (leb 1 (length c.args.operand.now) && leb (length c.args.operand.now) 23) = search rules in
    search (tests, range, number, text, within)
