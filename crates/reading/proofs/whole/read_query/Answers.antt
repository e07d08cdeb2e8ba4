-- `read_query` meets its contract: the reading begins with the whole query and no predicates, and is handed on by its cases.
use Rattle.reading.proofs.WholeQuery.{whole_accepted, whole_left, whole_refused}
use Rattle.std.proofs.lemmas.Result.{err_from_is_err_and}
use Rattle.reading.proofs.whole.read_query.Goals as goal

pub returns-in_err-read : goal.returns-in_err-read
returns-in_err-read c =
    let a = c.args in
    let m = c.read_member in
    let p = err_from_is_err_and c.from_residual.result c.from_residual.ensures.1 in
    rw (p.1, p.2) (whole_refused a.tags.now a.q.now a.found.now m.new.found _ c.in_err-read.ensures)

pub returns-then-read-q : goal.returns-then-read-q
returns-then-read-q c =
    let a = c.args in
    let m = c.read_member in
    whole_left a.tags.now a.q.now a.found.now m.new.found _ _ c.in_ok-read.ensures c.if-read-q.true

pub returns : goal.returns
returns c =
    let a = c.args in
    let m = c.read_member in
    whole_accepted a.tags.now a.q.now a.found.now m.new.found _ _ c.in_ok-read.ensures c.if-read-q.false
