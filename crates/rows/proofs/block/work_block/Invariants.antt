-- `work_block` meets its contract. Invariant: at every row of the block the turns left make of it what all make of it.
use Rattle.rows.proofs.BlockLoop.{Turning}
use Rattle.rows.specs.Ready.{slices}
use Rattle.rows.proofs.block.work_block.Given as goal

abbrev pub invariant-loop-turn : goal.invariant-loop-turn
invariant-loop-turn l =
    Turning (slices l.catalogue l.question l.turns l.plan l.ancestors) (record { base = l.base; rows = l.rows; start = l.start }) l.turn-index l.live l.selected l.initial.marks l.marks
