-- `gather` meets its contract: the word of a turn's predicate has the bits of its line in the block.
use Rattle.gather.proofs.Gathering.{word_bits}
use Rattle.std.proofs.Common.{refl, rules}
use Rattle.gather.proofs.gather.Goals as goal

pub returns : goal.returns
returns c =
    c.gather_words.ensures _
    (λ i word d l e r. word_bits c.args.table.now (λ k. (c.type_inv.table k).fits) c.args.base.block refl (search rules) d r)
