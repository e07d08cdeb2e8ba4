-- The answers of working out one condition, from what was decoded.
use Prim.Native.Nat.{ℕ, ◌≤◌, ◌<◌}
use native.Mathlib.Omega.{arith}
use mathlib.Core.Path.{◌≡◌, sym, ◌∙◌}
use mathlib.Core.Bool.{true}
use mathlib.Core.List.{List}
use lib.ListN.{length}
use lib.Dec.{ltb}
use borrow.Author.Tests.{le-ltb, lt-ltb}
use Rattle.fields.specs.Decoded.{Decoded, refused}
use Rattle.predicate.specs.declared.outcome.Outcome.{Outcome}
use Rattle.predicate.specs.Meaning.{outcome}
use Rattle.reading.specs.declared.tables.Tables.{Tables}
use Rattle.task.specs.Task.{predicate_at}
use Rattle.input.specs.declared.begin.Beginning.{Beginning}
use Rattle.task.specs.Input.{Input, decode_input}
use Rattle.input.specs.Beginning.{HasInput}
use Rattle.answers.specs.declared.refusal.Refusal.{Refusal}
use Rattle.answers.specs.Refusal.{refusal_number}
use Rattle.answers.specs.Answer.{Refused, Accepted}
use Rattle.answers.specs.Refusals.{no_such_row_or_predicate}
use Rattle.answers.specs.Answers.{outcome_number, outcome_answer}

pub outcome_answer_refused : (d : Decoded Input) (row c : ℕ) (e : Refusal) → d ≡ refused (refusal_number e) → Refused (refusal_number e) ≡ outcome_answer d row c
outcome_answer_refused d row c e h = rw h

-- the three ends of working out one condition, once the input is accepted
module _ {b q : List ℕ} {r : Beginning} {T : Tables} (G : HasInput b q r T) (row c : ℕ) where
  same_rows : G.input.catalogue.rows ≡ r.rows
  same_rows = sym G.laid.rows ∙ sym G.rows

  has_row : row < r.rows → ltb row G.input.catalogue.rows ≡ true
  has_row h = lt-ltb row G.input.catalogue.rows (omega (arith, same_rows))

  pub has_such_row : row < r.rows → row < G.input.catalogue.rows
  has_such_row h = omega (arith, same_rows)

  pub no_such_row : r.rows ≤ row → Refused no_such_row_or_predicate ≡ outcome_answer (decode_input b q) row c
  no_such_row h = rw (G.decoded, le-ltb row G.input.catalogue.rows (omega (arith, same_rows)))

  pub no_such_predicate : row < r.rows → r.n ≤ c → Refused no_such_row_or_predicate ≡ outcome_answer (decode_input b q) row c
  no_such_predicate g h =
      rw (G.decoded, has_row g, le-ltb c (length G.input.query.predicates) (omega (arith, G.tabled.count)))

  pub outcome_told : row < r.rows → c < r.n → (a : Outcome) (x : ℕ) → a ≡ outcome G.input.catalogue (predicate_at G.input.query c) row
      → x ≡ outcome_number a → Accepted x 0 0 ≡ outcome_answer (decode_input b q) row c
  outcome_told g h a x e f = rw (G.decoded, has_row g, lt-ltb c (length G.input.query.predicates) (omega (arith, G.tabled.count)), f, e)
