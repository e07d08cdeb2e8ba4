-- `check_catalogue` meets its contract: the layout shows what was decoded.
use Rattle.catalogue.specs.Decode.{decode_catalogue}
use Rattle.checks.proofs.Answers.{answered_accepted, answered_refused}
use Rattle.std.proofs.lemmas.Result.{err_from_is_err_and}
use Rattle.checks.proofs.check_catalogue.Goals as goal

pub returns-in_err-layout : goal.returns-in_err-layout
returns-in_err-layout c =
    let p = err_from_is_err_and c.from_residual.result c.from_residual.ensures.1 in
    rw (p.1, p.2) (answered_refused c.args.catalogue.now _ (decode_catalogue c.args.catalogue.now) c.in_err-layout.ensures)

pub returns : goal.returns
returns c = answered_accepted _ _ (decode_catalogue c.args.catalogue.now) c.in_ok-layout.ensures
