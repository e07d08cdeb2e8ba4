-- `met_at` meets its contract: the plain kind, or what it and the blanks leave of the due rows.
use Rattle.scan.proofs.Shown.{opposite_met, plain_met}
use Rattle.scan.proofs.met.met_at.Goals as goal

pub returns-then-kind-lt-OPPOSITE_FROM : goal.returns-then-kind-lt-OPPOSITE_FROM
returns-then-kind-lt-OPPOSITE_FROM c = plain_met _ c.plain_met_at-met.ensures c.if-kind-lt-OPPOSITE_FROM.true

pub blank_at-requires : goal.blank_at-requires
blank_at-requires c = c.requires.0

pub returns : goal.returns
returns c = opposite_met _ c.plain_met_at-met.ensures _ c.if-kind-lt-OPPOSITE_FROM.false c.blank_at.ensures
