-- `is_blank_at` meets its contract: four bytes of 255 are the blank from either end.
use Rattle.numbers.proofs.Halves.{blank_either}
use Rattle.std.proofs.Common.{arith}
use Rattle.numbers.proofs.is_blank_at.Goals as goal

pub returns : goal.returns
returns c = let a = c.args in blank_either a.b.now a.at (λ i. omega (arith, c.type_inv.b i)) c.half_at.ensures.0
