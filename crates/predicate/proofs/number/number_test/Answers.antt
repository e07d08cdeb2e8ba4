-- `number_test` meets its contract: each return is the case of `number_test` that its tests choose.
use Rattle.std.proofs.Common.{◌≡◌, arith}
use Rattle.fields.proofs.Tests.{tests}
use Rattle.predicate.specs.Meaning.{number_test}
use Rattle.predicate.proofs.number.number_test.Goals as goal

pub returns-in-0 : goal.returns-in-0
unfolding number_test
returns-in-0 c = search (tests, c.in-0.is, ← c.four_bytes-low.ensures, ← c.four_bytes-high.ensures, c.is_between.ensures)

pub returns-in-1 : goal.returns-in-1
unfolding number_test
returns-in-1 c = search (tests, c.in-1.is)

pub returns-in_default : goal.returns-in_default
unfolding number_test
returns-in_default c =
    let r : c.args.kind ≡ 0 → ⊥ = λ e. omega arith in
    let b : c.args.kind ≡ 1 → ⊥ = λ e. omega arith in search (tests, r, b)
