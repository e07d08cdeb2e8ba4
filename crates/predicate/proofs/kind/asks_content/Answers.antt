-- `asks_content` meets its contract: each return is the value of `asks_content` at the tests that led there.
use Rattle.std.proofs.Common.{◌≡◌, ◌≤◌, ◌<◌, arith}
use Rattle.fields.proofs.Tests.{tests}
use Rattle.predicate.specs.Kinds.{asks_content}
use Rattle.predicate.proofs.kind.asks_content.Goals as goal

pub returns-in-0 : goal.returns-in-0
unfolding asks_content
returns-in-0 c = let e : c.args.kind ≡ 0 = omega arith in search (tests, e)

pub returns-in-0-2 : goal.returns-in-0-2
unfolding asks_content
returns-in-0-2 c =
    let n : c.args.kind ≡ 0 → ⊥ = λ e. omega arith in
    let l : 2 ≤ c.args.kind = omega arith in
    let h : c.args.kind ≤ 4 = omega arith in search (tests, n, l, h)

pub returns-in_default : goal.returns-in_default
unfolding asks_content
returns-in_default c =
    let n : c.args.kind ≡ 0 → ⊥ = λ e. omega arith in
    let l : c.args.kind < 2 = omega arith in search (tests, n, l)

pub returns-in_default-2 : goal.returns-in_default-2
unfolding asks_content
returns-in_default-2 c =
    let n : c.args.kind ≡ 0 → ⊥ = λ e. omega arith in
    let l : 2 ≤ c.args.kind = omega arith in
    let h : 4 < c.args.kind = omega arith in search (tests, n, l, h)
