-- The answers of the calls that check, from what was decoded.
use Prim.Native.Nat.{ℕ}
use mathlib.Core.Path.{◌≡◌}
use mathlib.Core.List.{List}
use Rattle.std.specs.Prelude.{Ok, Err}
use Rattle.fields.specs.Decoded.{Decoded, refused, accepted}
use Rattle.catalogue.specs.Catalogue.{Catalogue}
use Rattle.catalogue.specs.declared.refusal.Refusal.{Refusal as CatalogueRefusal}
use Rattle.catalogue.specs.Refusal.{refusal_number as catalogue_number}
use Rattle.layout.specs.declared.Layout.{Layout}
use Rattle.layout.specs.Layout.{LaidOut}
use Rattle.reading.specs.declared.tables.Tables.{Tables}
use Rattle.input.specs.declared.begin.Beginning.{Beginning}
use Rattle.task.specs.Input.{Input, decode_input}
use Rattle.input.specs.Beginning.{HasInput}
use Rattle.answers.specs.declared.refusal.Refusal.{Refusal}
use Rattle.answers.specs.Refusal.{refusal_number}
use Rattle.answers.specs.Answer.{Refused, Accepted}
use Rattle.answers.specs.Answers.{catalogue_answer, question_answer}

pub answered_refused : (b : List ℕ) (e : CatalogueRefusal) (d : Decoded Catalogue) → LaidOut b (Err e) d → Refused (catalogue_number e) ≡ catalogue_answer d
answered_refused b e (refused x) h = rw h
answered_refused b e (accepted c) h = absurd h

pub answered_accepted : (b : List ℕ) (l : Layout) (d : Decoded Catalogue) → LaidOut b (Ok l) d → Accepted l.rows l.columns 0 ≡ catalogue_answer d
answered_accepted b l (refused x) h = absurd h
answered_accepted b l (accepted c) h = rw (h.rows, h.columns)

pub question_answer_refused : (d : Decoded Input) (e : Refusal) → d ≡ refused (refusal_number e) → Refused (refusal_number e) ≡ question_answer d
question_answer_refused d e h = rw h

pub question_answer_accepted : {b q : List ℕ} {r : Beginning} {T : Tables} → HasInput b q r T → Accepted r.n 0 0 ≡ question_answer (decode_input b q)
question_answer_accepted G = rw (G.decoded, G.tabled.count)
