-- `settled_rows` meets its contract: a yes settles an any-of group, a no an all-of group.
use Rattle.blocks.proofs.Groups.{settled_all, settled_any}
use Rattle.blocks.proofs.group.settled_rows.Goals as goal

pub returns-then-settling : goal.returns-then-settling
returns-then-settling c = let a = c.args in settled_any a.settling a.active a.met c.if-settling.true

pub returns-else-settling : goal.returns-else-settling
returns-else-settling c = let a = c.args in settled_all a.settling a.active a.met c.minus.result c.if-settling.false c.minus.ensures
