-- `take_out` meets its contract. Invariant: the words passed are worked.
use Rattle.blocks.specs.Block.{TakenOut}
use Rattle.blocks.proofs.group.take_out.Given as goal

abbrev pub invariant-loop-rows : goal.invariant-loop-rows
invariant-loop-rows l = TakenOut 0 l.rows-index l.gone l.left l.initial.words l.words
