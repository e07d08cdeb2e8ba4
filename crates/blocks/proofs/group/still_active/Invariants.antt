-- `still_active` meets its contract. Invariant: `left` has the active rows at which none of the words passed is live.
use Rattle.blocks.specs.Block.{StillActiveIs}
use Rattle.blocks.proofs.group.still_active.Given as goal

abbrev pub invariant-loop-rows : goal.invariant-loop-rows
invariant-loop-rows l = StillActiveIs 0 l.rows-index l.active l.left l.words
