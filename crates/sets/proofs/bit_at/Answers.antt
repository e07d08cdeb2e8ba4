-- `bit_at` meets its contract: one shifted by less than 32 loses no bit.
use Rattle.sets.specs.Gathered.{bit_no, bit_yes}
use Rattle.sets.proofs.bit_at.Goals as goal

pub returns-then-test : goal.returns-then-test
returns-then-test c = bit_yes _ _ c.if-test.true c.requires

pub returns-else-test : goal.returns-else-test
returns-else-test c = bit_no _ _ c.if-test.false
