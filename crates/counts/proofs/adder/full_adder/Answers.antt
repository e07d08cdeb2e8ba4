-- `full_adder` meets its contract: sum and carry are a full adder's, bit by bit.
use Rattle.counts.proofs.FullAdder.{words_added}
use Rattle.counts.proofs.adder.full_adder.Goals as goal

pub returns : goal.returns
returns c = let a = c.args in words_added 64 a.x a.y a.z c.ranges.x.fits c.ranges.y.fits c.ranges.z.fits
