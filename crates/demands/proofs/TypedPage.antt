-- The page of order 4, proved: one proof for each of its statements, in its order.
use Prim.Native.Nat.{ℕ, ◌%◌, ◌^◌, ◌≤◌, ◌<◌}
use native.Mathlib.Omega.{arith}
use mathlib.Core.Path.{◌≡◌, refl, sym, ap, ◌∙◌, subst}
use mathlib.Core.Logic.{inl, inr}
use mathlib.Core.List.{List}
use lib.ListN.{length, drop, length-append, length-drop}
use Rattle.fields.specs.Output.{put_front}
use Rattle.catalogue.specs.Catalogue.{Catalogue}
use Rattle.predicate.specs.Payload.{tags_of}
use Rattle.predicate.proofs.PayloadLaws.{tags_length}
use Rattle.query.specs.Decode.{payload_of, decode_query}
use Rattle.query.specs.Encode.{encode, payloads}
use Rattle.query.proofs.Leaves.{payloads_each, payloads_full, payloads_shallow, payloads_few}
use Rattle.query.proofs.EncodedBytes.{valid_bytes}
use Rattle.query.proofs.ValidLaws.{valid_passes}
use Rattle.query.proofs.Exactly.{query_length}
use Rattle.query.proofs.Once.{tree_once}
use Rattle.query.proofs.WrittenRefusals.{written_refusal}
use Rattle.strategy.specs.Tree.{Tree, EachLeaf}
use Rattle.syntax.specs.Spelling.{spelling, PayloadTypable, Typable}
use Rattle.syntax.proofs.ConditionLaws.{valid_typable, condition_fits}
use Rattle.syntax.proofs.Lengths.{bytes_within, ShortCondition, question_fits}
use Rattle.task.specs.Input.{Input}
use Rattle.answers.specs.Written.{Written}
use Rattle.demands.specs.Demands.{Reads}
use Rattle.demands.specs.TypedPage.{after_typing, TypedKept, TypedBroken}
use Rattle.demands.specs.TypedPage.{TypedNumber, TypedRefused, TypedAccepted, TypedWrites, TypedFurther, TypedMost, TypedBack, TypedOnce, TypedNever}
use Rattle.demands.proofs.DemandTables.{front_new, front_old}
use Rattle.demands.proofs.TypedRuns.{Cases, typed_cases, broken_number, kept_typed, kept_gives, broken_gives, broken_output}

-- THE CALL

pub typed_number : TypedNumber
typed_number b text old bytes e p = (λ h. go h (typed_cases b text old bytes), λ x. (broken_gives b text old e x).1)
  where
    go : (after_typing b text old).word % 2 ^ 8 ≡ e → Cases b text old → TypedBroken b text old e
    go h (inl (q, i, k)) = absurd (omega (arith, (kept_gives b text old q i k).1))
    go h (inr (d, x)) = subst (λ (n : ℕ). TypedBroken b text old n) (sym (broken_gives b text old d x).1 ∙ h) x

pub typed_refused : TypedRefused
typed_refused b text old e x = (broken_gives b text old e x, broken_output b text old e x)

pub typed_accepted : TypedAccepted
typed_accepted b text old bytes = (λ h. go h (typed_cases b text old bytes), λ (q, i, k). (kept_gives b text old q i k).1)
  where
    go : (after_typing b text old).word % 2 ^ 8 ≡ 0 → Cases b text old → (q : List ℕ) × (i : Input) × TypedKept b text old q i
    go h (inl x) = x
    go h (inr (d, x)) = absurd (omega (arith, (broken_gives b text old d x).1, broken_number b text old d x))

-- the output of a call that takes the text
kept_output : (b text old q : List ℕ) (i : Input) → TypedKept b text old q i → (after_typing b text old).output ≡ put_front q old
kept_output b text old q i k = ap (λ (o : Written). o.output) (kept_typed b text old q i k)

pub typed_writes : TypedWrites
typed_writes b text old q i k = (kept_gives b text old q i k, rw (kept_output b text old q i k) (front_new q old (length q) refl))

pub typed_further : TypedFurther
typed_further b text old q i k =
    let room = k.kept.checks.0 in
    rw (kept_output b text old q i k) (
      length-append q (drop (length q) old) ∙ omega (arith, length-drop (length q) old),
      front_old q old (length q) refl,
    )

pub typed_most : TypedMost
typed_most b q i (f, (formed, w)) = omega (arith, ap length w, query_length i.catalogue i.query formed)

-- ONE TYPED FORM

-- each condition of a question that is accepted can be typed, in at most 86 bytes
module _ (b q : List ℕ) (i : Input) (r : Reads b q i) where
  abbrev tags : List ℕ
  tags = tags_of i.catalogue

  each_condition : (P : List ℕ → Type 0) → ((payload : List ℕ) → PayloadTypable tags payload → ShortCondition payload → P payload) → EachLeaf P (payloads i.query)
  each_condition P gives =
      payloads_each i.catalogue i.query r.1.0 P
      (λ p v o.
      let bytes = valid_bytes i.catalogue r.0.0 p v o in
      let valid = valid_passes i.catalogue p v in
      gives (payload_of p) (valid_typable tags (payload_of p) bytes valid)
      (condition_fits tags (payload_of p) bytes valid (omega (arith, tags_length i.catalogue.columns, r.0.0.few))))

  back_typable : Typable tags (payloads i.query)
  back_typable = (payloads_full i.catalogue i.query r.1.0, each_condition (PayloadTypable tags) (λ payload y s. y))

  back_short : length (spelling (payloads i.query)) ≤ 16384
  back_short =
      question_fits (payloads i.query) (each_condition ShortCondition (λ payload y s. s)) (payloads_full i.catalogue i.query r.1.0)
      (payloads_shallow i.catalogue i.query r.1.0)
      (payloads_few i.catalogue i.query r.1.0)

pub typed_back : TypedBack
typed_back b q i r = (
  back_short b q i r,
  λ old l. record { taken = (back_short b q i r, (payloads i.query, back_typable b q i r, refl, r.1.1)); kept = record { forms = r; checks = (l, tt) } },
)

-- a text that is taken spells under 65,536 bytes
fits : (C : Catalogue) (text : List ℕ) (t : Tree (List ℕ)) → length text ≤ 16384 → Typable (tags_of C) t → text ≡ spelling t → length (encode t) < 65536
fits C text t l y s = omega (arith, ap length s, bytes_within (tags_of C) t y)

pub typed_once : TypedOnce
typed_once C C' text text' q l (t, y, s, w) (t', y', s', w') = s ∙ ap spelling (tree_once t t' (fits C text t l y s) (sym w ∙ w')) ∙ sym s'

pub typed_never : TypedNever
unfolding decode_query
typed_never C text q e l (t, y, s, w) h = written_refusal (tags_of C) t y.0 (fits C text t l y s) e (rw w at h)
