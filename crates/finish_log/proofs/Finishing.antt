-- The cases of a copy's end: too little room, or the fields written.
use Prim.Native.Nat.{ℕ, ◌*◌, ◌≤◌, ◌<◌}
use native.Mathlib.Omega.{arith}
use mathlib.Core.Path.{◌≡◌, sym, ap, ◌∙◌, subst}
use mathlib.Core.List.{List}
use lib.ListN.{length, take, drop}
use borrow.Author.Tests.{le-leb, lt-leb}
use Rattle.fields.specs.Output.{put_front}
use Rattle.fields.proofs.OutputLaws.{put_front_lem}
use Rattle.bitmaps.specs.Bitmap.{bytes_for, ones_in}
use Rattle.bitmaps.specs.Table.{line_size, lines_of}
use Rattle.counts.specs.Whole.{NoneBehind}
use Rattle.query.specs.Format.{predicate_limit}
use Rattle.task.specs.Log.{probe_field_size}
use Rattle.plan.specs.declared.table.Access.{Access}
use Rattle.log_rows.specs.Written.{task_log, LogReady, HasLogRoom, LogWritten}
use Rattle.task.specs.Input.{Input}
use Rattle.answers.specs.Answer.{Refused, Accepted}
use Rattle.answers.specs.Word.{packed}
use Rattle.answers.specs.Refusals.{output_too_short}
use Rattle.answers.specs.Checks.{checked}
use Rattle.demands.specs.Run.{task_of}
use Rattle.answers.specs.Written.{written}
use Rattle.demands.specs.Log.{log_size}
use Rattle.finish_log.specs.Finish.{MarksOf, HasMarks, finished_log}
use Rattle.finish_log.proofs.Halves.{half, probes_of, marked_fields, fields_length, looks_counted}

-- the size of a line as the code has it
pub size_short : {i : Input} {b q : List ℕ} {plan : List Access} {order marks : List ℕ} {n rows size : ℕ} → MarksOf i b q plan order marks n rows → size ≡ bytes_for rows → size ≤ line_size
size_short M e = let s = M.short in omega arith

-- nothing is marked behind the rows that there are
pub marks_whole : {i : Input} {b q : List ℕ} {plan : List Access} {order marks : List ℕ} {n rows size : ℕ} → MarksOf i b q plan order marks n rows → size ≡ bytes_for rows → NoneBehind size n marks
marks_whole {marks = marks} {n = n} M e =
    let z = ap bytes_for M.rows_are ∙ sym e in
    subst (λ (k : ℕ). NoneBehind k n marks) z M.worked.probed_whole

-- so many looks have room in the word
pub looks_few : (n looked : ℕ) → n ≤ predicate_limit → looked ≤ 8 * (n * line_size) → looked ≤ 131072
looks_few n looked f l = omega arith

module _ {b : List ℕ} {plan : List Access} {order marks : List ℕ} {n rows size looked : ℕ} (s : size ≡ bytes_for rows) (l : looked ≡ ones_in (lines_of size marks n)) (old : List ℕ) where
  log_size_lem : {i : Input} {q : List ℕ} → MarksOf i b q plan order marks n rows → log_size (task_of i order) ≡ probe_field_size * looked
  log_size_lem M = ap (λ (k : ℕ). probe_field_size * k) (sym (l ∙ ap (λ (k : ℕ). ones_in (lines_of k marks n)) s ∙ looks_counted M))

  pub log_short : length old < probe_field_size * looked → (i : Input) (q : List ℕ) → MarksOf i b q plan order marks n rows
      → written (packed (Refused output_too_short)) old ≡ finished_log i order old
  unfolding finished_log checked
  log_short h i q M = rw (lt-leb (log_size (task_of i order)) (length old) (omega (arith, log_size_lem M)))

  module _ (fits : probe_field_size * looked ≤ length old) where
    log_ready : {i : Input} {q : List ℕ} → MarksOf i b q plan order marks n rows → LogReady (task_of i order) b q plan order (take half marks) (drop half marks) rows old
    log_ready M = record {
      probes = probes_of M;
      short = M.short;
      room = omega (arith, ap length (marked_fields M), fields_length M, log_size_lem M);
    }

    pub log_room : HasMarks b plan order marks n rows → HasLogRoom b plan order (take half marks) (drop half marks) rows old
    log_room (i, q, M) = (task_of i order, q, log_ready M)

    pub log_written : {r : ℕ} {new : List ℕ} → LogWritten b plan order (take half marks) (drop half marks) rows old r new
        → (i : Input) (q : List ℕ) → MarksOf i b q plan order marks n rows → written (packed (Accepted 0 0 (probe_field_size * looked))) new ≡ finished_log i order old
    unfolding finished_log checked
    log_written w i q M =
        let x = w (task_of i order) q (log_ready M) in
        rw (le-leb (log_size (task_of i order)) (length old) (omega (arith, log_size_lem M)), log_size_lem M)
        (ap (written (packed (Accepted 0 0 (probe_field_size * looked))))
        (x.bytes ∙ put_front_lem (task_log (task_of i order) order (take half marks) (drop half marks) rows) old ∙ ap (λ (t : List ℕ). put_front t old) (marked_fields M)))
