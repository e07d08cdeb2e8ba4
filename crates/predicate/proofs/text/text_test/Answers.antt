-- `text_test` meets its contract: each return is the case of `text_test` that its tests choose.
use Rattle.std.proofs.Common.{◌≡◌, arith}
use Rattle.fields.proofs.Tests.{tests}
use Rattle.predicate.specs.Meaning.{text_test}
use Rattle.predicate.proofs.text.text_test.Goals as goal

pub returns-in-2 : goal.returns-in-2
unfolding text_test
returns-in-2 c = search (tests, c.in-2.is, c.equals.ensures)

pub returns-in-3 : goal.returns-in-3
unfolding text_test
returns-in-3 c = search (tests, c.in-3.is, c.begins_with.ensures)

pub returns-in-4 : goal.returns-in-4
unfolding text_test
returns-in-4 c = search (tests, c.in-4.is, c.contains.ensures)

pub returns-in-5 : goal.returns-in-5
unfolding text_test
returns-in-5 c = search (tests, c.in-5.is, c.is_empty.ensures)

pub returns-in_default : goal.returns-in_default
unfolding text_test
returns-in_default c =
    let e : c.args.kind ≡ 2 → ⊥ = λ x. omega arith in
    let b : c.args.kind ≡ 3 → ⊥ = λ x. omega arith in
    let o : c.args.kind ≡ 4 → ⊥ = λ x. omega arith in
    let t : c.args.kind ≡ 5 → ⊥ = λ x. omega arith in search (tests, e, b, o, t)
