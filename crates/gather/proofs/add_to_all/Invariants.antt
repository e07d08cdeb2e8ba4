-- `add_to_all` meets its contract. Invariant: the rows passed have the turn.
use Rattle.gather.specs.Turns.{AddedTo}
use Rattle.std.specs.Prelude.{ltb}
use Rattle.gather.proofs.add_to_all.Given as goal

abbrev pub invariant-loop-row : goal.invariant-loop-row
invariant-loop-row l = AddedTo (λ d. ltb d l.row) l.i l.initial.gathered l.gathered
