-- `read_number` meets its contract. Invariant: what the digits from here on give, the whole gives.
use Rattle.std.specs.Prelude.{drop, ◌≡◌, ◌≤◌}
use Rattle.syntax.specs.Conditions.{more_digits, number_ahead}
use Rattle.lexer.proofs.number.read_number.Given as goal

abbrev pub invariant-loop-next : goal.invariant-loop-next
invariant-loop-next l = (l.number ≤ l.limit) × (number_ahead l.limit (drop l.at l.text) ≡ more_digits l.limit l.number (drop l.next l.text))
