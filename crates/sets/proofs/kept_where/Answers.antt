-- `kept_where` meets its contract: whatever P says of the answers, what was met, with what is left, is what P keeps.
use Rattle.std.proofs.Common.{arith}
use Rattle.sets.specs.KeptLaws.{rest_within, sort_end, sort_next_at, sort_none}
use Rattle.sets.proofs.kept_where.Goals as goal

pub loop-left-init : goal.loop-left-init
loop-left-init g c = record { within = λ d e. e; sorts = λ P A. sort_none P _ (omega arith) }

pub loop-left-preserved : goal.loop-left-preserved
loop-left-preserved g c =
    let l = c.loop-left.invariant in
    let f = c.first.ensures in
    let r = c.rest-next.ensures in
    record {
      within = λ d e. l.within d (rest_within f r d e);
      sorts = λ P A. sort_next_at f r (l.sorts P A) (A _ _ (l.within _ f.among) c.test.ensures) c.kept-met.ensures;
    }

pub returns : goal.returns
returns g c P A = sort_end (c.loop-left.invariant.sorts P A) c.loop-left-test.false
