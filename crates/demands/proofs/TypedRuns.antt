-- A typed question breaks nothing, or there is a first check that fails: the tests of `typed_of` are the page's sentences, and decide what it leaves.
use Prim.Native.Nat.{ℕ}
use native.Mathlib.Omega.{arith}
use mathlib.Core.Path.{◌≡◌, refl, sym, ap, ◌∙◌, subst}
use mathlib.Core.Bool.{Bool, true, false, cond}
use mathlib.Core.Logic.{◌↔◌, ◌⊎◌, inl, inr}
use mathlib.Core.List.{List}
use lib.ListN.{length}
use lib.Dec.{leb}
use Rattle.bools.specs.Bools.{leb_yes, leb_le}
use Rattle.fields.specs.Decoded.{Decoded, refused, accepted}
use Rattle.fields.specs.Numbers.{Bytes}
use Rattle.catalogue.specs.Catalogue.{Catalogue}
use Rattle.catalogue.specs.Decode.{decode_catalogue}
use Rattle.catalogue.specs.Sound.{IsRefusal}
use Rattle.catalogue.proofs.Exactly.{accepted_exactly as catalogue-exactly}
use Rattle.predicate.specs.Payload.{tags_of}
use Rattle.query.proofs.Exactly.{query_length}
use Rattle.query.proofs.EncodedBytes.{tree_bytes}
use Rattle.query.proofs.Leaves.{each_leaf}
use Rattle.syntax.specs.Machine.{typed_limit, Typed, misspelled, typed, question_of}
use Rattle.syntax.proofs.Spelled.{typed_exactly}
use Rattle.task.specs.Input.{Input}
use Rattle.answers.specs.Answer.{Refused, Accepted}
use Rattle.answers.specs.Written.{Written, refuse_writing}
use Rattle.answers.specs.Refusals.{text_misspelled}
use Rattle.demands.specs.Demands.{Gives, IsCatalogue, bad_form, bad_check}
use Rattle.demands.specs.Typed.{accept_typed, typed_checks, taken_text, typed_of}
use Rattle.demands.specs.TypedPage.{Spells, after_typing, Taken, typed_sentences, TypedKept, TypedBroken, typed_catalogue, typed_text, typed_question}
use Rattle.demands.proofs.DemandLaws.{catalogue_range, is_catalogue, is_question, unpacked}
use Rattle.demands.proofs.SentenceLaws.{Tests, none_fails, first_fails}
use Rattle.demands.proofs.CallLaws.{CallCases, call_cases, breaks_number}

-- a text is taken exactly if it is short enough and spells a question
module _ (C : Catalogue) (text : List ℕ) where
  taken_exactly : (q : List ℕ) → (taken_text C text ≡ typed q) ↔ Taken C text q
  taken_exactly q = (go (leb (length text) typed_limit) refl, λ (l, s). rw (leb_yes (length text) typed_limit l) ((typed_exactly (tags_of C) text q).1 s))
    where
      go : (x : Bool) → leb (length text) typed_limit ≡ x → cond x (question_of (tags_of C) text) misspelled ≡ typed q → Taken C text q
      go true e h = (leb_le (length text) typed_limit e, (typed_exactly (tags_of C) text q).0 h)
      go false e h = let z : ◌≡◌ {A = ℕ} 0 1 = cc in absurd (omega arith)

  not_taken : ((q : List ℕ) → Taken C text q → ⊥) → taken_text C text ≡ misspelled
  not_taken n = go (taken_text C text) refl
    where
      go : (o : Typed) → taken_text C text ≡ o → o ≡ misspelled
      go misspelled h = refl
      go (typed q) h = absurd (n q ((taken_exactly q).0 h))

-- what a text spells is bytes
spelled_bytes : (C : Catalogue) (text q : List ℕ) → Spells C text q → Bytes q
spelled_bytes C text q (t, y, s, w) = subst Bytes (sym w) (tree_bytes t (each_leaf (λ payload e. e.bytes) t y.1))

-- bytes are those of one catalogue
one_catalogue_lem : (b : List ℕ) (C D : Catalogue) → IsCatalogue b C → decode_catalogue b ≡ accepted D → C ≡ D
one_catalogue_lem b C D f h = let same = sym (is_catalogue b C f) ∙ h in cc

room_tests : (q output : List ℕ) (i : Input) → Tests (typed_checks q output) (typed_sentences q output i)
room_tests q output i = ((refl, (leb_le (length q) (length output), leb_yes (length q) (length output))), tt)

module _ (b text output : List ℕ) where
  -- nothing is broken, or there is a first check that fails
  abbrev pub Cases : Type 0
  Cases = ((q : List ℕ) × (i : Input) × TypedKept b text output q i) ⊎ ((e : ℕ) × TypedBroken b text output e)

  pub typed_cases : Bytes b → Cases
  typed_cases bytes = catalogues (decode_catalogue b) refl
    where
      questions : (C : Catalogue) (q : List ℕ) → IsCatalogue b C → Taken C text q → CallCases b q (typed_sentences q output) → Cases
      questions C q f t (inl (i, k)) =
          let same = one_catalogue_lem b C i.catalogue f (is_catalogue b i.catalogue k.forms.0) in
          inl (q, i, record { taken = subst (λ (D : Catalogue). Taken D text q) same t; kept = k })
      questions C q f t (inr (e, x)) = inr (e, typed_question C q f t x)

      texts : (C : Catalogue) → IsCatalogue b C → (o : Typed) → taken_text C text ≡ o → Cases
      texts C f misspelled h =
          inr (text_misspelled, typed_text C f (λ q t. let y = (taken_exactly C text q).1 t in let z : ◌≡◌ {A = ℕ} 0 1 = cc in omega arith) refl)
      texts C f (typed q) h =
          let t = (taken_exactly C text q).0 h in
          questions C q f t (call_cases b q (typed_sentences q output) (λ i. typed_checks q output) (room_tests q output) bytes (spelled_bytes C text q t.1))

      catalogues : (d : Decoded Catalogue) → decode_catalogue b ≡ d → Cases
      catalogues (refused e) h = inr (e, typed_catalogue h)
      catalogues (accepted C) h = texts C ((catalogue-exactly b C bytes).0 h) (taken_text C text) refl

  pub broken_number : (e : ℕ) → TypedBroken b text output e → IsRefusal e
  broken_number e (typed_catalogue h) = catalogue_range b e h
  broken_number e (typed_text C f n z) = omega arith
  broken_number e (typed_question C q f t x) = breaks_number b q (typed_sentences q output) (λ i. (omega arith, tt)) e x

  pub kept_typed : (q : List ℕ) (i : Input) → TypedKept b text output q i → after_typing b text output ≡ accept_typed q output
  unfolding typed_of
  kept_typed q i k =
      rw (
        is_catalogue b i.catalogue k.kept.forms.0,
        (taken_exactly i.catalogue text q).1 k.taken,
        is_question i.catalogue q i.query k.kept.forms.1,
      )
      (none_fails _ _ (typed_checks q output) (typed_sentences q output i) (room_tests q output i) k.kept.checks)

  broken_typed : (e : ℕ) → TypedBroken b text output e → after_typing b text output ≡ refuse_writing e output
  unfolding typed_of
  broken_typed e (typed_catalogue h) = rw h
  broken_typed e (typed_text C f n z) = rw (is_catalogue b C f, not_taken C text n, z)
  broken_typed e (typed_question C q f t (bad_form (inl h))) = rw h
  broken_typed e (typed_question C q f t (bad_form (inr (D, a, h)))) =
      rw (a, (taken_exactly D text q).1 (subst (λ (D : Catalogue). Taken D text q) (one_catalogue_lem b C D f a) t), h)
  broken_typed e (typed_question C q f t (bad_check i r x)) =
      let a = is_catalogue b i.catalogue r.0 in
      rw (
        a,
        (taken_exactly i.catalogue text q).1 (subst (λ (D : Catalogue). Taken D text q) (one_catalogue_lem b C i.catalogue f a) t),
        is_question i.catalogue q i.query r.1,
      )
      (first_fails _ _ (typed_checks q output) (typed_sentences q output i) (room_tests q output i) e x)

  pub kept_gives : (q : List ℕ) (i : Input) → TypedKept b text output q i → Gives (after_typing b text output).word 0 0 0 (length q)
  kept_gives q i k =
      let (formed, w) = k.kept.forms.1 in
      rw (ap (λ (o : Written). o.word) (kept_typed q i k))
      (unpacked (Accepted 0 0 (length q)) (omega (arith, ap length w, query_length i.catalogue i.query formed)))

  pub broken_gives : (e : ℕ) → TypedBroken b text output e → Gives (after_typing b text output).word e 0 0 0
  broken_gives e x =
      let r = broken_number e x in
      rw (ap (λ (o : Written). o.word) (broken_typed e x)) (unpacked (Refused e) (omega arith))

  pub broken_output : (e : ℕ) → TypedBroken b text output e → (after_typing b text output).output ≡ output
  broken_output e x = ap (λ (o : Written). o.output) (broken_typed e x)
