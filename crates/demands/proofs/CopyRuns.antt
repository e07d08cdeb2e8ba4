-- A copy breaks nothing, or there is a first check that fails: the tests of `log_of` are the page's sentences, and decide what it leaves.
use Prim.Native.Nat.{ℕ, ◌≤◌}
use native.Mathlib.Omega.{arith}
use mathlib.Core.Path.{◌≡◌, refl, ap, ◌∙◌}
use mathlib.Core.Logic.{◌⊎◌}
use mathlib.Core.List.{List}
use lib.ListN.{length}
use Rattle.fields.specs.Output.{put_front}
use Rattle.bools.specs.Bools.{leb_yes, leb_le}
use Rattle.catalogue.specs.Sound.{IsRefusal}
use Rattle.task.specs.Input.{Input}
use Rattle.answers.specs.Answer.{Refused, Accepted}
use Rattle.answers.specs.Word.{packed}
use Rattle.demands.specs.Run.{Request, predicate_count, task_of}
use Rattle.demands.specs.Demands.{Gives, InBytes, bad_form, bad_check, RunningOrder}
use Rattle.answers.specs.Written.{Written, written}
use Rattle.demands.specs.Log.{task_fields, EachProbeOnce, log_checks, log_on, log_of, LogGives}
use Rattle.demands.specs.CopyPage.{copy_bytes, copy_sentences, CopyKept, CopyBroken}
use Rattle.demands.proofs.DemandLaws.{reads_input, broken_input, unpacked}
use Rattle.demands.proofs.SentenceLaws.{Tests, none_fails, first_fails}
use Rattle.demands.proofs.CallLaws.{call_cases, breaks_number}
use Rattle.demands.proofs.DemandTables.{order_plain, look_count_le}

module _ (r : Request) (output : List ℕ) where
  copy_tests : (i : Input) → Tests (log_checks i r.order output) (copy_sentences r output i)
  copy_tests i = (
    (refl, order_plain (predicate_count i) r.order),
    ((refl, (leb_le (copy_bytes i r) (length output), leb_yes (copy_bytes i r) (length output))), tt),
  )

  -- nothing is broken, or there is a first check that fails
  abbrev pub Cases : Type 0
  Cases = ((i : Input) × CopyKept r output i) ⊎ ((e : ℕ) × CopyBroken r output e)

  pub copy_cases : InBytes r → Cases
  copy_cases bytes = call_cases r.catalogue r.question (copy_sentences r output) (λ i. log_checks i r.order output) copy_tests bytes.0 bytes.1

  pub broken_number : (e : ℕ) → CopyBroken r output e → IsRefusal e
  broken_number e x = breaks_number r.catalogue r.question (copy_sentences r output) (λ i. (omega arith, (omega arith, tt))) e x

  -- the sentences that hold, by name
  pub kept_order : (i : Input) → CopyKept r output i → RunningOrder i r.order
  kept_order i k = k.checks.0

  pub kept_room : (i : Input) → CopyKept r output i → copy_bytes i r ≤ length output
  kept_room i k = k.checks.1.0

  module _ (s : (entry : ℕ) → List ℕ) where
    kept_log : (i : Input) → CopyKept r output i
        → log_of s r output ≡ written (packed (Accepted 0 0 (copy_bytes i r))) (put_front (task_fields (task_of i r.order) s) output)
    unfolding log_of log_on
    kept_log i k =
        rw (reads_input r.catalogue r.question i k.forms)
        (none_fails _ _ (log_checks i r.order output) (copy_sentences r output i) (copy_tests i) k.checks)

    broken_log : (e : ℕ) → CopyBroken r output e → log_of s r output ≡ written (packed (Refused e)) output
    unfolding log_of log_on
    broken_log e (bad_form x) = rw (broken_input r.catalogue r.question e x)
    broken_log e (bad_check i f x) =
        rw (reads_input r.catalogue r.question i f)
        (first_fails _ _ (log_checks i r.order output) (copy_sentences r output i) (copy_tests i) e x)

-- what any call leaves that keeps the contract
module _ {r : Request} {old new : List ℕ} {w : ℕ} (L : LogGives r old w new) where
  pub kept_output : (i : Input) → CopyKept r old i → new ≡ put_front (task_fields (task_of i r.order) L.sequence) old
  kept_output i k = ap (λ (l : Written). l.output) (L.leaves ∙ kept_log r old L.sequence i k)

  pub kept_sequence : (i : Input) → CopyKept r old i → EachProbeOnce (task_of i r.order) L.sequence
  kept_sequence i k = (rw (reads_input r.catalogue r.question i k.forms) at L.sequenced) ((order_plain (predicate_count i) r.order).1 (kept_order r old i k))

  pub kept_gives : (i : Input) → CopyKept r old i → Gives w 0 0 0 (copy_bytes i r)
  kept_gives i k =
      let C = k.forms.0.0 in
      let Q = k.forms.1.0 in
      rw (ap (λ (l : Written). l.word) (L.leaves ∙ kept_log r old L.sequence i k))
      (unpacked (Accepted 0 0 (copy_bytes i r)) (omega (arith, look_count_le i r.order 2048 C.rows_few, Q.few)))

  pub broken_output : (e : ℕ) → CopyBroken r old e → new ≡ old
  broken_output e x = ap (λ (l : Written). l.output) (L.leaves ∙ broken_log r old L.sequence e x)

  pub broken_gives : (e : ℕ) → CopyBroken r old e → Gives w e 0 0 0
  broken_gives e x =
      let b = broken_number r old e x in
      rw (ap (λ (l : Written). l.word) (L.leaves ∙ broken_log r old L.sequence e x)) (unpacked (Refused e) (omega arith))
