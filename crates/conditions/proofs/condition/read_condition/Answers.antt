-- `read_condition` meets its contract: a condition behind `not `, or one without it.
use Rattle.conditions.proofs.FieldReads.{condition_not, condition_plain}
use Rattle.conditions.proofs.condition.read_condition.Goals as goal

pub returns-in-Some : goal.returns-in-Some
returns-in-Some c =
    let a = c.args in
    let read = c.read_plain in
    condition_not a.tags.now a.text.now a.at c.in-Some.ensures a.end a.out.now read.result read.new.out read.ensures

pub returns-in-None : goal.returns-in-None
returns-in-None c =
    let a = c.args in
    let read = c.read_plain-in-None in
    condition_plain a.tags.now a.text.now a.at c.in-None.ensures a.end a.out.now read.result read.new.out read.ensures
