-- `kind_fits` meets its contract: each return is the case of `kind_fits` that its tests choose.
use Rattle.std.proofs.Common.{◌≤◌, ◌<◌, arith}
use Rattle.fields.proofs.Tests.{tests}
use Rattle.predicate.specs.Payload.{kind_fits}
use Rattle.payload.proofs.kind_fits.Goals as goal

pub returns-in-0-to-1 : goal.returns-in-0-to-1
unfolding kind_fits
returns-in-0-to-1 c = let number : c.args.kind ≤ 1 = omega arith in search (tests, number)

pub returns-in-2-to-5 : goal.returns-in-2-to-5
unfolding kind_fits
returns-in-2-to-5 c =
    let over : 1 < c.args.kind = omega arith in
    let text : c.args.kind ≤ 5 = omega arith in search (tests, over, text)

pub returns-in_default : goal.returns-in_default
unfolding kind_fits
returns-in_default c =
    let over : 1 < c.args.kind = omega arith in
    let none : 5 < c.args.kind = omega arith in search (tests, over, none)
