-- `is_marked` meets its contract: a bit of a byte is its quotient by the weight, odd or even.
use Rattle.bitmaps.specs.Bit.{bit}
use Rattle.sets.specs.Set.{has}
use borrow.Author.Rules.{rules}
use Rattle.bitmaps.proofs.bit.is_marked.Goals as goal

pub returns : goal.returns
unfolding bit has
returns c = search rules
