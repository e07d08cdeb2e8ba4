-- `add_turn` meets its contract. Invariant: the rows of the word that are not to come any more have the turn.
use Rattle.sets.specs.Changed.{Changing}
use Rattle.sets.specs.Set.{set_with}
use Rattle.gather.proofs.add_turn.Given as goal

abbrev pub invariant-loop-d : goal.invariant-loop-d
invariant-loop-d l = Changing (λ s. set_with s l.i) l.word l.d-iterator.0 l.initial.gathered l.gathered
