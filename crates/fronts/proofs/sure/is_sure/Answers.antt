-- `is_sure` meets its contract.
use Rattle.std.proofs.Common.{ap}
use Rattle.std.specs.Int.Bits.{bit_and, bit_xor}
use Rattle.std.specs.Prelude.{eqb, ℕ}
use Rattle.fronts.proofs.sure.is_sure.Goals as goal

pub returns : goal.returns
returns c = let k = c.args.k in ap (λ (n : ℕ). eqb (bit_and (bit_xor n k.value) k.asked) 0) c.word_at.ensures
