-- `gather_words` meets its contract. Invariant: each row has, of the turns passed, those whose words have the row.
use Rattle.gather.specs.Turns.{GatheredBelow}
use Rattle.gather.proofs.gather_words.Given as goal

abbrev pub invariant-loop-i : goal.invariant-loop-i
invariant-loop-i g l = GatheredBelow (goal.F-post g l.word_of) l.i l.turns l.gathered
