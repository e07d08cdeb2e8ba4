-- The outcome at a row: from the value read there to the column that is shown.
use Prim.Native.Nat.{ℕ, ◌≤◌, ◌<◌}
use native.Mathlib.Omega.{arith}
use mathlib.Core.Path.{◌≡◌, refl, sym, ap, ◌∙◌}
use mathlib.Core.Bool.{Bool, true, false}
use mathlib.Core.List.{List}
use borrow.Author.Tests.{lt-ltb, le-ltb}
use Rattle.catalogue.specs.Format.{number_tag, text_tag}
use Rattle.catalogue.specs.Catalogue.{numbers, texts}
use Rattle.catalogue.specs.declared.cell.Cell.{Cell}
use Rattle.catalogue.proofs.Rows.{cell_row}
use Rattle.catalogue.specs.InPlace.{HasRow, NumberIs, TextIs}
use Rattle.predicate.specs.declared.outcome.Outcome.{Outcome}
use Rattle.predicate.specs.declared.outcome.Outcome.TheVariants.{Blank}
use Rattle.predicate.specs.Kinds.{opposite_from, plain_kind}
use Rattle.predicate.specs.Meaning.{text_blank, number_blank, number_test, text_test, yes_if, opposite, answers_blank, plain_outcome, outcome_of}
use Rattle.predicate.specs.Outcome.{PlainIs, OutcomeIs}

-- the two ways in which a kind below the opposites answers
module _ (kind : ℕ) (blank test : Bool) {r : Bool} (e : r ≡ answers_blank kind blank) where
  left_blank : r ≡ true → Blank ≡ plain_outcome kind blank test
  left_blank y = rw (sym e ∙ y)

  left_tested : {t : Bool} {a : Outcome} → r ≡ false → a ≡ yes_if t → t ≡ test → a ≡ plain_outcome kind blank test
  left_tested n y tested = rw (sym e ∙ n) (y ∙ ap yes_if tested)

-- a row that is no number column's is a text column's
pub other_is_text : (C : Cell) → (C.tag ≡ number_tag → ⊥) → C.tag ≡ text_tag
other_is_text C ne = go (cell_row C refl)
  where
    go : HasRow C.b.now C.tag C.start C.row → C.tag ≡ text_tag
    go (rows, numbers ns, s, l) = absurd (ne s.0)
    go (rows, texts ts, s, l) = s.0

module _ (b : List ℕ) (tag start row : ℕ) where
  -- from the value read there: blank, or by its test
  module _ (kind : ℕ) (o : List ℕ) (e : tag ≡ number_tag) (n : ℕ) (value : NumberIs b start row n) {r : Bool} (blank : r ≡ answers_blank kind (number_blank n)) where
    plain_number : (a : Outcome) → a ≡ plain_outcome kind (number_blank n) (number_test kind o n) → PlainIs b tag start kind o row a
    plain_number a is-outcome rows (numbers ns) s l =
        is-outcome ∙ ap (λ (m : ℕ). plain_outcome kind (number_blank m) (number_test kind o m)) (value rows ns (refl, s.1, s.2) l)
    plain_number a is-outcome rows (texts ts) s l = absurd (omega arith)

    pub number_blank_lem : r ≡ true → PlainIs b tag start kind o row Blank
    number_blank_lem y = plain_number Blank (left_blank kind (number_blank n) (number_test kind o n) blank y)

    pub number_tested : {t : Bool} {a : Outcome} → r ≡ false → a ≡ yes_if t → t ≡ number_test kind o n → PlainIs b tag start kind o row a
    number_tested {t} {a} f y tested = plain_number a (left_tested kind (number_blank n) (number_test kind o n) blank f y tested)

  module _ (kind : ℕ) (o : List ℕ) (ne : tag ≡ number_tag → ⊥) (t : List ℕ) (value : TextIs b start row t) {r : Bool} (blank : r ≡ answers_blank kind (text_blank t)) where
    plain_text : (a : Outcome) → a ≡ plain_outcome kind (text_blank t) (text_test kind o t) → PlainIs b tag start kind o row a
    plain_text a is-outcome rows (numbers ns) s l = absurd (ne s.0)
    plain_text a is-outcome rows (texts ts) s l =
        is-outcome ∙ ap (λ (u : List ℕ). plain_outcome kind (text_blank u) (text_test kind o u)) (value rows ts (refl, s.1, s.2, s.3) l)

    pub text_blank_lem : r ≡ true → PlainIs b tag start kind o row Blank
    text_blank_lem y = plain_text Blank (left_blank kind (text_blank t) (text_test kind o t) blank y)

    pub text_tested : {x : Bool} {a : Outcome} → r ≡ false → a ≡ yes_if x → x ≡ text_test kind o t → PlainIs b tag start kind o row a
    text_tested {x} {a} f y tested = plain_text a (left_tested kind (text_blank t) (text_test kind o t) blank f y tested)

  module _ (kind : ℕ) (o : List ℕ) (plain : ℕ) (plain-is : plain ≡ plain_kind kind) (a : Outcome) (is-outcome : PlainIs b tag start plain o row a) where
    pub outcome_plain : kind < opposite_from → OutcomeIs b tag start kind o row a
    unfolding outcome_of
    outcome_plain h rows c s l = rw (lt-ltb kind opposite_from h) ((rw plain-is at is-outcome) rows c s l)

    pub outcome_opposite : opposite_from ≤ kind → (r : Outcome) → r ≡ opposite a → OutcomeIs b tag start kind o row r
    unfolding outcome_of
    outcome_opposite h r turned rows c s l =
        rw (le-ltb kind opposite_from h) (turned ∙ ap opposite ((rw plain-is at is-outcome) rows c s l))
