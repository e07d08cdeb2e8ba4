-- `loose_test` meets its contract, by its bits.
use Rattle.heads.proofs.byte_test.loose_test.Goals as goal

pub returns : goal.returns
returns c = rw c.loose_bits-mask.ensures
