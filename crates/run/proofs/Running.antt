-- The cases of a run: the input refused, a check of the request failing, or the rows worked and the end of the run.
use Prim.Native.Nat.{ℕ, ◌≤◌}
use native.Mathlib.Omega.{arith}
use mathlib.Core.Path.{◌≡◌, sym, ap, ◌∙◌, subst}
use mathlib.Core.List.{List}
use lib.ListN.{length}
use Rattle.fields.specs.Decoded.{refused}
use Rattle.bitmaps.specs.Bitmap.{bytes_for}
use Rattle.bitmaps.specs.Table.{line_size}
use Rattle.counts.specs.Whole.{NoneBehind}
use Rattle.reading.specs.declared.tables.Tables.{Tables}
use Rattle.rows.specs.Worked.{Worked}
use Rattle.input.specs.declared.begin.Beginning.{Beginning}
use Rattle.task.specs.Input.{decode_input}
use Rattle.input.specs.Beginning.{HasInput}
use Rattle.input.proofs.InHand.{input_short}
use Rattle.answers.specs.declared.refusal.Refusal.{Refusal}
use Rattle.answers.specs.Refusal.{refusal_number, refusal_numbered}
use Rattle.answers.specs.Checks.{checked, refusal_by}
use Rattle.answers.proofs.Checks.{checked_holds, checked_fails, checked_further}
use Rattle.demands.specs.Run.{Lent, lent, Ran, refuse, task_of, selection, probe_bitmaps, request_checks, tally_checks, look_count, accept, run_on, run_of}
use Rattle.request.proofs.Request.{request_kept}
use Rattle.work.specs.Worked.{RunWorked}
use Rattle.finish.specs.Finish.{finished}

pub run_refused : (l : Lent) (e : Refusal) → decode_input l.request.catalogue l.request.question ≡ refused (refusal_number e)
    → refuse (refusal_number e) l.listed l.looks l.tally ≡ run_of l
unfolding run_of
run_refused l e h = rw h

-- the sizes that the input gives
module _ {b q : List ℕ} {r : Beginning} {T : Tables} (G : HasInput b q r T) where
  pub size_short : {size : ℕ} → size ≡ bytes_for r.rows → size ≤ line_size
  size_short e = omega (arith, input_short G)

  -- and so the ones behind, of which there is none
  pub size_whole : (n : ℕ) (t : List ℕ) {size : ℕ} → size ≡ bytes_for r.rows → NoneBehind (bytes_for G.input.catalogue.rows) n t → NoneBehind size n t
  size_whole n t e w = subst (λ (k : ℕ). NoneBehind k n t) (sym (e ∙ ap bytes_for (G.rows ∙ G.laid.rows))) w

module _ {b q : List ℕ} {r : Beginning} {T : Tables} (G : HasInput b q r T) (order : List ℕ) (reader : ℕ) (listed looks tally : List ℕ) (size : ℕ) (s : size ≡ bytes_for r.rows) where
  abbrev asked : Lent
  asked = lent b q order reader listed looks tally

  abbrev task_size : ℕ
  task_size = bytes_for G.input.catalogue.rows

  same_size : size ≡ task_size
  same_size = s ∙ ap bytes_for (G.rows ∙ G.laid.rows)

  -- the checks of the request, then that of the tally
  abbrev further : Ran
  further =
      checked (tally_checks tally reader (look_count (task_of G.input order))) (λ e. refuse e listed looks tally) (accept (task_of G.input order) asked)

  on_input : checked (request_checks r.n size order reader (length listed) (length looks)) (λ e. refuse e listed looks tally) further ≡ run_of asked
  unfolding run_of run_on
  on_input = rw (G.decoded, G.tabled.count, same_size) (sym (checked_further (λ e. refuse e listed looks tally)
      (request_checks r.n task_size order reader (length listed) (length looks)) _ _))

  abbrev first : ℕ
  first = refusal_by (request_checks r.n size order reader (length listed) (length looks))

  pub run_declined : (e : Refusal) → refusal_number e ≡ first → refuse (refusal_number e) listed looks tally ≡ run_of asked
  run_declined e f =
      let ne : first ≡ 0 → ⊥ = λ z. absurd (omega (arith, (refusal_numbered e).0, f, z)) in
      rw f (sym (checked_fails (λ x. refuse x listed looks tally) (request_checks r.n size order reader (length listed) (length looks)) further ne) ∙ on_input)

  -- the rows are worked, and the end of the run is the definition's
  pub run_finished : 0 ≡ first → {S P : List ℕ} → RunWorked b q order r.n S P → {x : Ran} → x ≡ finished S P r.n size reader listed looks tally → x ≡ run_of asked
  unfolding finished selection probe_bitmaps
  run_finished z {S} {P} W f =
      let w : Worked (task_of G.input order) r.n S P = W G.input G.decoded in
      f ∙ rw (same_size, w.selected_bitmap, w.probed_bitmaps, ← G.tabled.count)
      (sym (checked_holds (λ x. refuse x listed looks tally) (request_checks r.n size order reader (length listed) (length looks)) _
      (request_kept r.n size order reader (length listed) (length looks) z)) ∙ on_input)
