-- A call on a catalogue and a question breaks nothing, or there is a first check that fails: once for all calls whose tests are sentences.
use Prim.Native.Nat.{ℕ}
use native.Mathlib.Omega.{arith}
use mathlib.Core.Logic.{◌⊎◌, inl, inr}
use mathlib.Core.List.{List}
use Rattle.fields.specs.Numbers.{Bytes}
use Rattle.catalogue.specs.Sound.{IsRefusal}
use Rattle.task.specs.Input.{Input}
use Rattle.answers.specs.Checks.{Checks}
use Rattle.demands.specs.Sentences.{Sentences, NoneFails, FirstFails}
use Rattle.demands.specs.Demands.{Reads, FormBroken, Keeps, Breaks, bad_form, bad_check}
use Rattle.demands.proofs.DemandLaws.{input_cases, broken_range}
use Rattle.demands.proofs.SentenceLaws.{Tests, sentence_cases, EachNumber, first_number}

module _ (b q : List ℕ) (own : Input → Sentences) where
  abbrev pub CallCases : Type 0
  CallCases = ((i : Input) × Keeps b q own i) ⊎ ((e : ℕ) × Breaks b q own e)

  pub call_cases : (tests : Input → Checks) → ((i : Input) → Tests (tests i) (own i)) → Bytes b → Bytes q → CallCases
  call_cases tests same bytes-b bytes-q = forms (input_cases b q bytes-b bytes-q)
    where
      checks : (i : Input) → Reads b q i → NoneFails (own i) ⊎ ((e : ℕ) × FirstFails (own i) e) → CallCases
      checks i f (inl k) = inl (i, record { forms = f; checks = k })
      checks i f (inr (e, x)) = inr (e, bad_check i f x)

      forms : ((i : Input) × Reads b q i) ⊎ ((e : ℕ) × FormBroken b q e) → CallCases
      forms (inl (i, f)) = checks i f (sentence_cases (tests i) (own i) (same i))
      forms (inr (e, x)) = inr (e, bad_form x)

  pub breaks_number : ((i : Input) → EachNumber IsRefusal (own i)) → (e : ℕ) → Breaks b q own e → IsRefusal e
  breaks_number each e (bad_form x) = let r = broken_range b q e x in omega arith
  breaks_number each e (bad_check i f x) = first_number IsRefusal (own i) (each i) e x
