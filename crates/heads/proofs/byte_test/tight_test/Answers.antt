-- `tight_test` meets its contract, by its bits.
use Rattle.heads.proofs.byte_test.tight_test.Goals as goal

pub returns : goal.returns
returns c = rw c.tight_bits-mask.ensures
