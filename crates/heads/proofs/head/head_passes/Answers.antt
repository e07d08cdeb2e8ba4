-- `head_passes` meets its contract: the head is the word of four bytes.
use Rattle.std.proofs.Common.{ap}
use Rattle.std.specs.Int.Bits.{bit_and, bit_xor}
use Rattle.std.specs.Prelude.{eqb, ℕ}
use Rattle.heads.proofs.head.head_passes.Goals as goal

pub returns : goal.returns
returns c = let k = c.args.k in ap (λ (n : ℕ). eqb (bit_and (bit_xor n k.value) k.asked) 0) c.half_at.ensures.0
