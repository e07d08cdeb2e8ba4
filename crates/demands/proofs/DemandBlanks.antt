-- Order 2's words on blanks, from the definitions to those of the demands page.
use Prim.Native.Nat.{ℕ, ◌+◌, ◌≤◌, ◌<◌}
use native.Mathlib.Omega.{arith}
use mathlib.Core.Path.{◌≡◌, refl, sym, ◌∙◌}
use mathlib.Core.Bool.{true, false, not}
use mathlib.Core.Logic.{◌↔◌, ◌⊎◌, inl, inr}
use mathlib.Core.List.{List, []}
use lib.ListN.{length, get_or}
use lib.Dec.{ltb}
use Rattle.bools.specs.Bools.{which, clash, both, and_parts, eqb_eq, ltb_yes, ltb_no, ltb_lt, ltb_le}
use Rattle.catalogue.specs.Catalogue.{Column, numbers, texts}
use Rattle.predicate.specs.declared.outcome.Outcome.{Outcome}
use Rattle.predicate.specs.declared.outcome.Outcome.TheVariants.{No, Yes, Blank}
use Rattle.predicate.specs.Kinds.{range_kind, equals_kind, contains_kind, opposite_from, plain_kind, asks_content}
use Rattle.predicate.specs.Meaning.{opposite, truth, value_blank, outcome_of, column_asked, outcome}
use Rattle.predicate.specs.Outcome.{is_blank}
use Rattle.predicate.proofs.KindLaws.{kind_below, kind_opposite}
use Rattle.predicate.proofs.BlankLaws.{asked, blank_is}
use Rattle.task.specs.Input.{Input}
use Rattle.answers.specs.Answers.{outcome_number}
use Rattle.demands.specs.Demands.{condition_of, BlankField, MayAnswerBlank, BlankAt}

-- an outcome by its number
blank_number_lem : (a : Outcome) → (outcome_number a ≡ 2) ↔ (is_blank a ≡ true)
blank_number_lem No = (λ e. absurd (omega arith), λ e. clash e refl)
blank_number_lem Yes = (λ e. absurd (omega arith), λ e. clash e refl)
blank_number_lem Blank = (λ e. refl, λ e. refl)

pub yes_number : (a : Outcome) → (truth a ≡ true) ↔ (outcome_number a ≡ 1)
yes_number No = (λ e. clash e refl, λ e. absurd (omega arith))
yes_number Yes = (λ e. refl, λ e. refl)
yes_number Blank = (λ e. clash e refl, λ e. absurd (omega arith))

-- the kinds, of both sorts

pub asks_content_lem : (kind : ℕ) → (asks_content (plain_kind kind) ≡ true) ↔ MayAnswerBlank kind
asks_content_lem kind = (λ h. to (which (ltb kind opposite_from)) ((asked (plain_kind kind)).0 h), λ k. (asked (plain_kind kind)).1 (from k))
  where
    to : (ltb kind opposite_from ≡ true) ⊎ (ltb kind opposite_from ≡ false) → (plain_kind kind ≡ range_kind) ⊎ ((equals_kind ≤ plain_kind kind) × (plain_kind kind ≤ contains_kind)) → MayAnswerBlank kind
    to (inl y) (inl e) = inl (omega (arith, kind_below kind (ltb_lt kind opposite_from y)))
    to (inl y) (inr m) = inr (inl (omega (arith, m.0, kind_below kind (ltb_lt kind opposite_from y)), omega (arith, m.1, kind_below kind (ltb_lt kind opposite_from y))))
    to (inr y) (inl e) = inr (inr (inl (omega (arith, ltb_le kind opposite_from y, kind_opposite kind (ltb_le kind opposite_from y)))))
    to (inr y) (inr m) = inr (inr (inr (omega (arith, m.0, kind_opposite kind (ltb_le kind opposite_from y)), omega (arith, m.1, kind_opposite kind (ltb_le kind opposite_from y)))))

    from : MayAnswerBlank kind → (plain_kind kind ≡ range_kind) ⊎ ((equals_kind ≤ plain_kind kind) × (plain_kind kind ≤ contains_kind))
    from (inl e) = inl (omega (arith, kind_below kind (omega arith)))
    from (inr (inl m)) = inr (omega (arith, m.0, kind_below kind (omega (arith, m.1))), omega (arith, m.1, kind_below kind (omega (arith, m.1))))
    from (inr (inr (inl e))) = inl (omega (arith, kind_opposite kind (omega arith)))
    from (inr (inr (inr m))) = inr (omega (arith, m.0, kind_opposite kind (omega (arith, m.0))), omega (arith, m.1, kind_opposite kind (omega (arith, m.0))))

pub blank_field : (c : Column) (e : ℕ) → (value_blank c e ≡ true) ↔ BlankField c e
blank_field (numbers ns) e = (eqb_eq (get_or ns e 0) 4294967295, λ h. rw h)
blank_field (texts ts) e = (eqb_eq (length (get_or ts e [])) 0, λ h. rw h)

pub blank_answer : (c : Column) (kind : ℕ) (o : List ℕ) (e : ℕ) → (is_blank (outcome_of c kind o e) ≡ true) ↔ (BlankField c e × MayAnswerBlank kind)
blank_answer c kind o e = (to, from)
  where
    to : is_blank (outcome_of c kind o e) ≡ true → BlankField c e × MayAnswerBlank kind
    to h =
        let p = and_parts (value_blank c e) (asks_content (plain_kind kind)) (sym (blank_is c kind o e) ∙ h) in
        ((blank_field c e).0 p.0, (asks_content_lem kind).0 p.1)

    from : BlankField c e × MayAnswerBlank kind → is_blank (outcome_of c kind o e) ≡ true
    from (f, k) = blank_is c kind o e ∙ both ((blank_field c e).1 f) ((asks_content_lem kind).1 k)

pub blank_at : (i : Input) (e c : ℕ) → (outcome_number (outcome i.catalogue (condition_of i c) e) ≡ 2) ↔ BlankAt i e c
blank_at i e c =
    let p = condition_of i c in
    let o = outcome i.catalogue p e in
    let answer = blank_answer (column_asked i.catalogue p) p.kind p.operand e in
    (λ n. answer.0 ((blank_number_lem o).0 n), λ h. (blank_number_lem o).1 (answer.1 h))

-- a kind below the opposites, and its opposite
pub opposite_of : (c : Column) (kind : ℕ) (o : List ℕ) (e : ℕ) → kind < opposite_from → outcome_of c (kind + opposite_from) o e ≡ opposite (outcome_of c kind o e)
unfolding outcome_of
opposite_of c kind o e l =
    let p : plain_kind (kind + opposite_from) ≡ plain_kind kind = omega (arith, kind_opposite (kind + opposite_from) (omega arith), kind_below kind l) in
    rw (ltb_no (kind + opposite_from) opposite_from (omega arith), ltb_yes kind opposite_from l, p)

pub blank_false : (a : Outcome) → is_blank a ≡ true → (truth a ≡ false) × (truth (opposite a) ≡ false)
blank_false No e = clash e refl
blank_false Yes e = clash e refl
blank_false Blank e = (refl, refl)

pub other_opposite : (a : Outcome) → is_blank a ≡ false → truth (opposite a) ≡ not (truth a)
other_opposite No e = refl
other_opposite Yes e = refl
other_opposite Blank e = clash refl e
