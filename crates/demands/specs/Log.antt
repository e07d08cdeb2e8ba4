-- A whole copy of the register (order 1), our probe log: the word and the lent output afterwards, for every input.
use Rattle.std.specs.Prelude.{ℕ, ◌*◌, ◌<◌, ◌≡◌, true, List, [], ◌∷◌, length, leb}
use Rattle.fields.specs.Decoded.{Decoded, refused, accepted}
use Rattle.fields.specs.Output.{put_front}
use Rattle.predicate.specs.Meaning.{outcome}
use Rattle.strategy.specs.Order.{occurrences, is_order}
use Rattle.bitmaps.specs.Sums.{digit}
use Rattle.task.specs.Log.{probe_field_size, log_fields}
use Rattle.task.specs.Task.{Task, predicate_at, is_probed}
use Rattle.task.specs.Input.{Input, decode_input}
use Rattle.answers.specs.Answer.{Accepted}
use Rattle.answers.specs.Word.{packed}
use Rattle.answers.specs.Written.{Written, written, refuse_writing}
use Rattle.answers.specs.Refusals.{not_order, output_too_short}
use Rattle.answers.specs.Checks.{Checks, checked}
use Rattle.answers.specs.Answers.{outcome_number}
use Rattle.demands.specs.Run.{Request, predicate_count, task_of, look_count}

-- "outcome (1 yes, 0 no)", order 2's "gains outcome 2 for blank": the condition's own at that entry
abbrev pub outcome_number_at : Task → (row c : ℕ) → ℕ
outcome_number_at T row c = outcome_number (outcome T.catalogue (predicate_at T.query c) row)

-- the fields of all rows, those of a row in the sequence that is given for it
abbrev pub task_fields : Task → (sequence : (row : ℕ) → List ℕ) → List ℕ
task_fields T s = log_fields (outcome_number_at T) s T.catalogue.rows

-- THE OPEN POINT of order 1: "how the looks of one entry follow each other is left to the writer". Whatever the sequence, "each look has one field":
-- it has each predicate that is probed at the row once, and no other
abbrev pub EachProbeOnce : Task → (sequence : (row : ℕ) → List ℕ) → Type 0
EachProbeOnce T s = (row : ℕ) → row < T.catalogue.rows → (c : ℕ) → occurrences c (s row) ≡ digit (is_probed T c row)

-- "The bytes written are 7 times the look count."
abbrev pub log_size : Task → ℕ
log_size T = probe_field_size * look_count T

-- the fields go out to the front, "an output keeps its further bytes, and the length written is a result"
abbrev pub accept_log : (sequence : (row : ℕ) → List ℕ) → Task → (output : List ℕ) → Written
accept_log s T output = written (packed (Accepted 0 0 (log_size T))) (put_front (task_fields T s) output)

-- "Checks: 20, the lent output is too short, after 15."
abbrev pub output_checks : Task → (output : List ℕ) → Checks
output_checks T output = (output_too_short, leb (log_size T) (length output)) ∷ []

abbrev pub log_checks : Input → (order output : List ℕ) → Checks
log_checks i order output = (not_order, is_order (predicate_count i) order) ∷ output_checks (task_of i order) output

unfoldable pub log_on : (sequence : (row : ℕ) → List ℕ) → Input → (order output : List ℕ) → Written
log_on s i order output = checked (log_checks i order output) (λ e. refuse_writing e output) (accept_log s (task_of i order) output)

abbrev pub input_log : (sequence : (row : ℕ) → List ℕ) → Decoded Input → (order output : List ℕ) → Written
input_log s (refused e) order output = refuse_writing e output
input_log s (accepted i) order output = log_on s i order output

-- "Inputs are those of a run without tables and tally.", and until order 8 without its reader: 1 to 14 and 23 as for a run
unfoldable pub log_of : (sequence : (row : ℕ) → List ℕ) → Request → (output : List ℕ) → Written
log_of s r output = input_log s (decode_input r.catalogue r.question) r.order output

-- a sequence is asked for where the order is accepted: elsewhere there are no looks to tell
abbrev pub Sequenced : Decoded Input → (order : List ℕ) → (sequence : (row : ℕ) → List ℕ) → Type 0
Sequenced (refused e) order s = Unit {0}
Sequenced (accepted i) order s = is_order (predicate_count i) order ≡ true → EachProbeOnce (task_of i order) s

-- WHAT A COPY PROMISES: for some such sequence (the open point, and nothing else is open) the word and every byte of the output
pub record LogGives (r : Request) (old : List ℕ) (word : ℕ) (new : List ℕ) : Type 0 where
  pub sequence : (row : ℕ) → List ℕ
  pub sequenced : Sequenced (decode_input r.catalogue r.question) r.order sequence
  pub leaves : written word new ≡ log_of sequence r old
