-- Order 2's sentences on the outcomes of a blank field.
use Prim.Native.Nat.{ℕ, ◌≤◌}
use mathlib.Core.Path.{◌≡◌, refl, ◌∙◌}
use mathlib.Core.Bool.{Bool, true, false, not, ◌&&◌, ◌||◌, cond}
use mathlib.Core.Logic.{◌↔◌, ◌⊎◌, inl, inr}
use mathlib.Core.List.{List}
use lib.Dec.{ltb, leb, eqb}
use Rattle.bools.specs.Bools.{both, and_parts, or_right, or_cases, eqb_eq, leb_yes, leb_le}
use Rattle.catalogue.specs.Catalogue.{Column}
use Rattle.predicate.specs.declared.outcome.Outcome.{Outcome}
use Rattle.predicate.specs.declared.outcome.Outcome.TheVariants.{No, Yes, Blank}
use Rattle.predicate.specs.Kinds.{range_kind, equals_kind, contains_kind, opposite_from, plain_kind, asks_content}
use Rattle.predicate.specs.Meaning.{yes_if, opposite, truth, answers_blank, plain_outcome, value_blank, value_test, plain_of, turned, outcome_of}
use Rattle.predicate.specs.Outcome.{is_blank}

-- "for kinds 0 and 2 to 4"
pub asked : (kind : ℕ) → (asks_content kind ≡ true) ↔ ((kind ≡ range_kind) ⊎ ((equals_kind ≤ kind) × (kind ≤ contains_kind)))
unfolding asks_content
asked kind = (λ h. to (or_cases (eqb kind range_kind) (leb equals_kind kind && leb kind contains_kind) h), from)
  where
    to : (eqb kind range_kind ≡ true) ⊎ ((leb equals_kind kind && leb kind contains_kind) ≡ true) → (kind ≡ range_kind) ⊎ ((equals_kind ≤ kind) × (kind ≤ contains_kind))
    to (inl e) = inl (eqb_eq kind range_kind e)
    to (inr e) = let p = and_parts (leb equals_kind kind) (leb kind contains_kind) e in inr (leb_le equals_kind kind p.0, leb_le kind contains_kind p.1)

    from : (kind ≡ range_kind) ⊎ ((equals_kind ≤ kind) × (kind ≤ contains_kind)) → (eqb kind range_kind || leb equals_kind kind && leb kind contains_kind) ≡ true
    from (inl e) = rw e
    from (inr m) = or_right (eqb kind range_kind) (both (leb_yes equals_kind kind m.0) (leb_yes kind contains_kind m.1))

-- "a blank field meets neither a condition nor its opposite": the opposite is a yes where neither a yes nor a blank is
pub truth_opposite : (a : Outcome) → not (truth a || is_blank a) ≡ truth (opposite a)
truth_opposite No = refl
truth_opposite Yes = refl
truth_opposite Blank = refl

pub blank_turned : (kind : ℕ) (a : Outcome) → is_blank (turned kind a) ≡ is_blank a
blank_turned kind a = go (ltb kind opposite_from) a
  where
    go : (below : Bool) (a : Outcome) → is_blank (cond below a (opposite a)) ≡ is_blank a
    go true a = refl
    go false No = refl
    go false Yes = refl
    go false Blank = refl

module _ (kind : ℕ) (blank test : Bool) where
  pub blank_plain : is_blank (plain_outcome kind blank test) ≡ answers_blank kind blank
  blank_plain = go (answers_blank kind blank) test
    where
      go : (b t : Bool) → is_blank (cond b Blank (yes_if t)) ≡ b
      go true t = refl
      go false true = refl
      go false false = refl

  pub truth_plain : (test ≡ true → answers_blank kind blank ≡ true → ⊥) → truth (plain_outcome kind blank test) ≡ test
  truth_plain = go (answers_blank kind blank) test
    where
      go : (b t : Bool) → (t ≡ true → b ≡ true → ⊥) → truth (cond b Blank (yes_if t)) ≡ t
      go true true f = absurd (f refl refl)
      go true false f = refl
      go false true f = refl
      go false false f = refl

-- the outcome is blank where the kind asks for content and the field is blank
pub blank_is : (c : Column) (kind : ℕ) (o : List ℕ) (row : ℕ) → is_blank (outcome_of c kind o row) ≡ answers_blank (plain_kind kind) (value_blank c row)
unfolding outcome_of
blank_is c kind o row = blank_turned kind (plain_of c (plain_kind kind) o row) ∙ blank_plain (plain_kind kind) (value_blank c row) (value_test c (plain_kind kind) o row)
