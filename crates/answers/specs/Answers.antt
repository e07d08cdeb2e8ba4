-- What the calls that only read give, from what was decoded.
use Rattle.std.specs.Prelude.{ℕ, ◌&&◌, cond, length, ltb}
use Rattle.fields.specs.Decoded.{Decoded, refused, accepted}
use Rattle.catalogue.specs.Catalogue.{Catalogue}
use Rattle.predicate.specs.declared.outcome.Outcome.{Outcome}
use Rattle.predicate.specs.declared.outcome.Outcome.TheVariants.{No, Yes, Blank}
use Rattle.predicate.specs.Meaning.{outcome}
use Rattle.task.specs.Task.{predicate_at}
use Rattle.task.specs.Input.{Input}
use Rattle.answers.specs.Answer.{Answer, Refused, Accepted}
use Rattle.answers.specs.Refusals.{no_such_row_or_predicate}

-- "a catalogue check gives E and C"
abbrev pub catalogue_answer : Decoded Catalogue → Answer
catalogue_answer (refused e) = Refused e
catalogue_answer (accepted c) = Accepted c.rows (length c.columns) 0

-- "a question check n"
abbrev pub question_answer : Decoded Input → Answer
question_answer (refused e) = Refused e
question_answer (accepted i) = Accepted (length i.query.predicates) 0 0

-- "one condition 1 (yes) or 0"; order 2: "yes, no or 2 for blank"
abbrev pub outcome_number : Outcome → ℕ
outcome_number No = 0
outcome_number Yes = 1
outcome_number Blank = 2

-- "Working out one condition: 1 to 14, then 18, no such entry or condition."; order 6's 23 is with 1 to 14
abbrev pub outcome_answer : Decoded Input → (row c : ℕ) → Answer
outcome_answer (refused e) row c = Refused e
outcome_answer (accepted i) row c =
    cond (ltb row i.catalogue.rows && ltb c (length i.query.predicates))
    (Accepted (outcome_number (outcome i.catalogue (predicate_at i.query c) row)) 0 0)
    (Refused no_such_row_or_predicate)
