-- `gather_blanks` meets its contract: of each turn the word of its predicate's blanks is gathered.
use Rattle.blanks.proofs.Blanks.{probes_at}
use Rattle.blanks.specs.Blanks.{BlankRows}
use Rattle.std.proofs.Common.{get_or, rules}
use Rattle.blanks.proofs.gather_blanks.Goals as goal

pub returns : goal.returns
returns c T q R =
    let a = c.args in
    let P = a.probes in
    c.gather_words.ensures _
    (λ i word d l e k.
    (let found : BlankRows a.catalogue.now a.plan.now P.probed.now P.met.now (get_or P.turns.now i 0) a.base.row word = search rules in
    found T q (probes_at R l) d k))
