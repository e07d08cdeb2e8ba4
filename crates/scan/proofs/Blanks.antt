-- A blank field passes no test that asks for content, so what passes its test is answered yes.
use Prim.Native.Nat.{ℕ, ◌≤◌, ◌<◌}
use native.Mathlib.Omega.{arith}
use mathlib.Core.Path.{◌≡◌, refl, ap, ◌∙◌}
use mathlib.Core.Bool.{true, false}
use mathlib.Core.Logic.{◌⊎◌, inl, inr}
use mathlib.Core.List.{List, [], ◌∷◌}
use lib.ListN.{length}
use lib.Dec.{leb}
use borrow.Author.Tests.{leb-true, eqb-true}
use Rattle.bools.specs.Bools.{clash, and_parts, same?}
use Rattle.catalogue.specs.Format.{blank_number}
use Rattle.predicate.specs.Kinds.{range_kind, number_blank_kind, equals_kind, begins_kind, contains_kind, asks_content}
use Rattle.predicate.specs.Meaning.{folded, same, begins, occurs, text_blank, number_blank, low_of, high_of, number_test, text_test, truth, answers_blank, plain_outcome}
use Rattle.predicate.specs.Payload.{operand_fits}
use Rattle.predicate.proofs.BlankLaws.{asked, truth_plain}
use Rattle.scan.proofs.Ranges.{range_fits_lem, text_fits}

-- a blank number lies in no range that a condition may ask for
pub number_truth : (kind : ℕ) (o : List ℕ) → operand_fits kind o ≡ true → kind ≤ number_blank_kind → (n : ℕ) → truth (plain_outcome kind (number_blank n) (number_test kind o n)) ≡ number_test kind o n
unfolding number_test
number_truth kind o fits l n = truth_plain kind (number_blank n) (number_test kind o n) passed
  where
    passed : number_test kind o n ≡ true → answers_blank kind (number_blank n) ≡ true → ⊥
    passed t b = go ((asked kind).0 (and_parts (number_blank n) (asks_content kind) b).1)
      where
        go : (kind ≡ range_kind) ⊎ ((equals_kind ≤ kind) × (kind ≤ contains_kind)) → ⊥
        go (inl e) =
            let p = and_parts (leb (low_of o) n) (leb n (high_of o)) (rw e at t) in
            let h : n ≤ high_of o = leb-true n (high_of o) p.1 in
            let f = range_fits_lem kind o fits e in
            let z = eqb-true n blank_number (and_parts (number_blank n) (asks_content kind) b).0 in
            omega arith
        go (inr m) = omega (arith, m.0)

-- nor does a blank text pass the test of an operand
none_passes : (kind : ℕ) (o : List ℕ) → 0 < length o → equals_kind ≤ kind → kind ≤ contains_kind → text_test kind o [] ≡ false
unfolding text_test folded same begins occurs
none_passes kind [] h l m = absurd (omega arith)
none_passes kind (x ∷ xs) h l m = go (same? kind equals_kind) (same? kind begins_kind)
  where
    go : (kind ≡ equals_kind) ⊎ (kind ≡ equals_kind → ⊥) → (kind ≡ begins_kind) ⊎ (kind ≡ begins_kind → ⊥) → text_test kind (x ∷ xs) [] ≡ false
    go (inl e) w = rw e
    go (inr ne) (inl e) = rw e
    go (inr ne) (inr nf) = let e : kind ≡ contains_kind = omega (arith, ne, nf) in rw e

pub text_truth : (kind : ℕ) (o : List ℕ) → operand_fits kind o ≡ true → number_blank_kind < kind → (t : List ℕ) → truth (plain_outcome kind (text_blank t) (text_test kind o t)) ≡ text_test kind o t
text_truth kind o fits l t = truth_plain kind (text_blank t) (text_test kind o t) (passed t)
  where
    passed : (t : List ℕ) → text_test kind o t ≡ true → answers_blank kind (text_blank t) ≡ true → ⊥
    passed t y b = go ((asked kind).0 (and_parts (text_blank t) (asks_content kind) b).1)
      where
        empty : (t : List ℕ) → length t ≡ 0 → t ≡ []
        empty [] e = refl
        empty (x ∷ xs) e = absurd (omega arith)

        go : (kind ≡ range_kind) ⊎ ((equals_kind ≤ kind) × (kind ≤ contains_kind)) → ⊥
        go (inl e) = omega arith
        go (inr m) =
            let z = empty t (eqb-true (length t) 0 (and_parts (text_blank t) (asks_content kind) b).0) in
            clash y (ap (text_test kind o) z ∙ none_passes kind o (text_fits kind o fits m.0 m.1).0 m.0 m.1)
