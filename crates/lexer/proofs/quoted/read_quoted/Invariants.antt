-- `read_quoted` meets its contract. Invariant: the bytes read so far are written, and stand before those that the text goes on with.
use Rattle.lexer.proofs.QuotedBytes.{Going}
use Rattle.std.specs.Prelude.{length, ◌-◌}
use Rattle.lexer.proofs.quoted.read_quoted.Given as goal

abbrev pub invariant-loop-x : goal.invariant-loop-x
invariant-loop-x l = Going l.text l.from l.initial.out l.to l.at l.end l.out

abbrev pub decreases-loop-x : goal.decreases-loop-x
decreases-loop-x l = length l.text - l.at
