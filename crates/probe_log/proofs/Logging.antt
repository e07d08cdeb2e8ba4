-- The cases of a copy: the input refused, the order refused, or the rows worked and the end of the copy.
use Prim.Native.Nat.{ℕ, ◌*◌}
use mathlib.Core.Path.{◌≡◌, sym, ◌∙◌}
use mathlib.Core.Bool.{true, false}
use mathlib.Core.List.{List}
use lib.ListN.{length}
use Rattle.fields.specs.Decoded.{refused}
use Rattle.strategy.specs.Order.{is_order}
use Rattle.bitmaps.specs.Table.{line_size}
use Rattle.query.specs.Format.{predicate_limit}
use Rattle.reading.specs.declared.tables.Tables.{Tables}
use Rattle.reading.specs.Tables.{tables}
use Rattle.input.specs.declared.begin.Beginning.{Beginning}
use Rattle.task.specs.Input.{decode_input}
use Rattle.input.specs.Beginning.{HasInput}
use Rattle.input.proofs.InHand.{input_short, input_accessed}
use Rattle.answers.specs.declared.refusal.Refusal.{Refusal}
use Rattle.answers.specs.Refusal.{refusal_number}
use Rattle.answers.specs.Answer.{Answer, Refused}
use Rattle.answers.specs.Word.{packed}
use Rattle.answers.specs.Refusals.{not_order}
use Rattle.answers.specs.Checks.{checked}
use Rattle.answers.specs.Written.{written}
use Rattle.demands.specs.Log.{log_on, log_of}
use Rattle.plan.specs.declared.table.Access.{Access}
use Rattle.work.specs.Worked.{HasPlan, RunWorked}
use Rattle.probe_log.specs.Sequence.{log_in_turn}
use Rattle.finish_log.specs.Finish.{MarksOf, HasMarks, finished_log, LogFinished}

pub log_refused : (b q order output : List ℕ) (e : Refusal) → decode_input b q ≡ refused (refusal_number e)
    → written (packed (Refused (refusal_number e))) output ≡ log_in_turn b q order output
unfolding log_of
log_refused b q order output e h = rw h

module _ {b q : List ℕ} {r : Beginning} {T : Tables} (G : HasInput b q r T) (order : List ℕ) where
  pub log_not_order : (output : List ℕ) → is_order r.n order ≡ false → written (packed (Refused not_order)) output ≡ log_in_turn b q order output
  unfolding log_of log_on checked
  log_not_order output o = rw (G.decoded, G.tabled.count, o)

module _ {b q : List ℕ} {r : Beginning} {plan : List Access} {ancestors : List ℕ} (P : HasPlan b q r plan ancestors) (order : List ℕ) (o : is_order r.n order ≡ true) {S marks : List ℕ}
    (size : length marks ≡ 2 * predicate_limit * line_size) (W : RunWorked b q order r.n S marks) where
  abbrev G : HasInput b q r (tables P.offsets ancestors)
  G = P.has_input

  marks_of : MarksOf G.input b q plan order marks r.n r.rows
  marks_of = record {
    count = G.tabled.count;
    few = G.tabled.few;
    rows_are = sym (G.rows ∙ G.laid.rows);
    short = input_short G;
    ordered = o;
    size = size;
    selected = S;
    worked = W G.input G.decoded;
    accessed = λ c l. input_accessed G c l (P.planned c l);
  }

  pub has_marks : HasMarks b plan order marks r.n r.rows
  has_marks = (G.input, q, marks_of)

  pub log_finished : (old new : List ℕ) (a : Answer) → LogFinished b plan order marks r.n r.rows old a new → written (packed a) new ≡ log_in_turn b q order old
  unfolding log_of log_on checked finished_log
  log_finished old new a F = F G.input q marks_of ∙ rw (G.decoded, G.tabled.count, o)
