-- From the rows as they lie in the bytes to the column that they show.
use Prim.Native.Nat.{ℕ, ◌+◌, ◌≤◌, ◌<◌}
use native.Mathlib.Omega.{arith}
use mathlib.Core.Path.{◌≡◌, refl, sym, ap, ◌∙◌}
use mathlib.Core.Bool.{Bool, true, false, ◌&&◌, ◌||◌, and-false, and-true}
use mathlib.Core.Logic.{◌⊎◌, inl, inr}
use mathlib.Core.List.{List, []}
use lib.ListN.{length, get_or}
use lib.Dec.{leb, eqb}
use lib.Bits.{bit_or, bit_xor}
use borrow.Author.Tests.{lt-ltb, le-ltb, le-leb, lt-leb, leb-true, leb-false}
use Rattle.bools.specs.Bools.{and_parts, eqb_eq, which}
use Rattle.catalogue.specs.Format.{number_tag, text_tag}
use Rattle.catalogue.specs.Catalogue.{Column, numbers, texts}
use Rattle.slots.specs.Slots.{text_limit}
use Rattle.catalogue.proofs.Rows.{number_is}
use Rattle.predicate.specs.declared.outcome.Outcome.{Outcome}
use Rattle.predicate.specs.Kinds.{range_kind, number_blank_kind, contains_kind, text_blank_kind, opposite_from, plain_kind, asks_content}
use Rattle.predicate.specs.Meaning.{truth, text_blank, number_blank, number_test, text_test, value_blank, plain_of, outcome_of}
use Rattle.predicate.specs.Outcome.{is_blank}
use Rattle.predicate.specs.Payload.{kind_fits, operand_fits}
use Rattle.predicate.proofs.BlankLaws.{truth_opposite, blank_turned, blank_is}
use Rattle.sets.specs.Set.{has}
use Rattle.sets.specs.SetLaws.{has_none}
use Rattle.sets.specs.Kept.{KeptBy, Sifted}
use Rattle.sets.specs.KeptLaws.{sift_kept, kept_same, kept_others, kept_either}
use Rattle.heads.specs.Block.{text_of}
use Rattle.fronts.proofs.Texts.{text_shown}
use Rattle.numbers.specs.declared.range.Range.{Range}
use Rattle.numbers.specs.Within.{number_in_row, within}
use Rattle.scan.specs.Met.{RangeFor, FitsColumn, MetFor, PlainMetFor, BlankFor}
use Rattle.scan.proofs.Ranges.{text_fits, range_means}
use Rattle.scan.proofs.Blanks.{number_truth, text_truth}

-- the tag of a kind's columns

number_kind : (tag kind : ℕ) → kind_fits tag kind ≡ true → kind ≤ number_blank_kind → tag ≡ number_tag
unfolding kind_fits
number_kind tag kind h l = eqb_eq tag number_tag (rw (le-leb kind number_blank_kind l) at h)

text_kind : (tag kind : ℕ) → kind_fits tag kind ≡ true → number_blank_kind < kind → (kind ≤ text_blank_kind) × (tag ≡ text_tag)
unfolding kind_fits
text_kind tag kind h l =
    let p = and_parts (leb kind text_blank_kind) (eqb tag text_tag) (rw (lt-leb kind number_blank_kind l) at h) in
    (leb-true kind text_blank_kind p.0, eqb_eq tag text_tag p.1)

-- and the kinds of a column
pub is_number : (tag kind : ℕ) {plain : ℕ} → plain ≡ plain_kind kind → kind_fits tag (plain_kind kind) ≡ true → plain ≤ number_blank_kind → tag ≡ number_tag
is_number tag kind k h l = number_kind tag (plain_kind kind) h (omega arith)

pub is_text : (tag kind : ℕ) {plain : ℕ} → plain ≡ plain_kind kind → kind_fits tag (plain_kind kind) ≡ true → number_blank_kind < plain → tag ≡ text_tag
is_text tag kind k h l = (text_kind tag (plain_kind kind) h (omega arith)).1

pub number_column : (tag kind : ℕ) {plain : ℕ} → plain ≡ plain_kind kind → kind_fits tag (plain_kind kind) ≡ true → tag ≡ number_tag → plain ≤ number_blank_kind
number_column tag kind {plain} k h e = go (which (leb plain number_blank_kind))
  where
    go : (leb plain number_blank_kind ≡ true) ⊎ (leb plain number_blank_kind ≡ false) → plain ≤ number_blank_kind
    go (inl l) = leb-true plain number_blank_kind l
    go (inr g) =
        let l : number_blank_kind < plain = leb-false plain number_blank_kind g in
        let t = (text_kind tag (plain_kind kind) h (omega arith)).1 in
        absurd (omega arith)

pub text_column : (tag kind : ℕ) {plain : ℕ} → plain ≡ plain_kind kind → kind_fits tag (plain_kind kind) ≡ true → (tag ≡ number_tag → ⊥) → number_blank_kind < plain
text_column tag kind {plain} k h ne = go (which (leb plain number_blank_kind))
  where
    go : (leb plain number_blank_kind ≡ true) ⊎ (leb plain number_blank_kind ≡ false) → number_blank_kind < plain
    go (inl l) = let s = leb-true plain number_blank_kind l in absurd (ne (number_kind tag (plain_kind kind) h (omega arith)))
    go (inr g) = leb-false plain number_blank_kind g

-- what fits a column: its tag, and the operand
module _ (tag kind : ℕ) (o : List ℕ) {plain : ℕ} (k : plain ≡ plain_kind kind) (F : FitsColumn tag kind o) where
  fits : operand_fits plain o ≡ true
  fits = ap (λ (j : ℕ). operand_fits j o) k ∙ F.1

  pub range_asked : plain ≡ range_kind → operand_fits range_kind o ≡ true
  range_asked e = ap (λ (j : ℕ). operand_fits j o) (sym e) ∙ fits

  -- the kinds with an operand: its size
  pub operand_asked : number_blank_kind < plain → (plain ≡ text_blank_kind → ⊥) → (plain ≤ contains_kind) × (0 < length o) × (length o ≤ text_limit)
  operand_asked l ne =
      let f = text_kind tag (plain_kind kind) F.0 (omega arith) in
      let m : plain ≤ contains_kind = omega arith in
      let s = text_fits plain o fits (omega arith) m in
      (m, s.0, s.1)

-- one predicate, and its plain kind
module _ {b : List ℕ} {start base kind : ℕ} {o : List ℕ} {due plain : ℕ} (k : plain ≡ plain_kind kind) where
  -- what the leaves answer, as the column has it
  module _ (r : ℕ) where
    numbers_met : plain ≤ number_blank_kind → KeptBy (λ d. number_test plain o (number_in_row b start (base + d))) due r → PlainMetFor b start base kind o due r
    numbers_met l K rows tag (numbers ns) R =
        kept_same _ _ due r
        (λ d m. ap (λ (j : ℕ). number_test j o (number_in_row b start (base + d))) k
        ∙ ap (number_test (plain_kind kind) o) (number_is b start (base + d) (number_in_row b start (base + d)) refl rows ns (refl, R.shown.1, R.shown.2) (R.inside d m))
        ∙ sym (number_truth (plain_kind kind) o R.operand_fits_lem (omega arith) (get_or ns (base + d) 0))) K
    numbers_met l K rows tag (texts ts) R =
        let e = number_kind tag (plain_kind kind) R.kind_fits_lem (omega arith) in let f : tag ≡ text_tag = R.shown.0 in absurd (omega arith)

    pub range_met : {g : Range} → RangeFor o g → operand_fits range_kind o ≡ true → plain ≡ range_kind → KeptBy (λ d. within g.low g.width (number_in_row b start (base + d))) due r → PlainMetFor b start base kind o due r
    unfolding number_test
    range_met P h e K =
        numbers_met (omega arith)
        (kept_same _ (λ d. number_test plain o (number_in_row b start (base + d))) due r (λ d m. rw e (range_means P h (number_in_row b start (base + d)))) K)

    pub number_blanks_met : plain ≡ number_blank_kind → KeptBy (λ d. number_blank (number_in_row b start (base + d))) due r → PlainMetFor b start base kind o due r
    unfolding number_test
    number_blanks_met e K = numbers_met (omega arith) (kept_same _ (λ d. number_test plain o (number_in_row b start (base + d))) due r (λ d m. rw e) K)

    pub texts_met : number_blank_kind < plain → KeptBy (λ d. text_test plain o (text_of b start (base + d))) due r → PlainMetFor b start base kind o due r
    texts_met l K rows tag (numbers ns) R =
        let e = text_kind tag (plain_kind kind) R.kind_fits_lem (omega arith) in let f : tag ≡ number_tag = R.shown.0 in absurd (omega arith)
    texts_met l K rows tag (texts ts) R =
        kept_same _ _ due r
        (λ d m. ap (λ (j : ℕ). text_test j o (text_of b start (base + d))) k
        ∙ ap (text_test (plain_kind kind) o) (text_shown b start (base + d) rows ts (refl, R.shown.1, R.shown.2, R.shown.3) (R.inside d m))
        ∙ sym (text_truth (plain_kind kind) o R.operand_fits_lem (omega arith) (get_or ts (base + d) []))) K

    pub blanks_met : plain ≡ text_blank_kind → KeptBy (λ d. text_blank (text_of b start (base + d))) due r → PlainMetFor b start base kind o due r
    unfolding text_test
    blanks_met e K = texts_met (omega arith) (kept_same _ (λ d. text_test plain o (text_of b start (base + d))) due r (λ d m. rw e) K)

    pub sifted_met : (may : ℕ) → number_blank_kind < plain → Sifted (λ d. text_test plain o (text_of b start (base + d))) due may
        → KeptBy (λ d. text_test plain o (text_of b start (base + d))) may r → PlainMetFor b start base kind o due r
    sifted_met may l S K = texts_met l (sift_kept r S K)

-- where the outcome is blank, of either kind

is_value : (kind : ℕ) {plain : ℕ} → plain ≡ plain_kind kind → asks_content plain ≡ true → (c : Column) (o : List ℕ) (row : ℕ) → value_blank c row ≡ is_blank (outcome_of c kind o row)
is_value kind k asks c o row = sym (blank_is c kind o row ∙ rw (sym k, asks, and-true (value_blank c row)))

module _ {b : List ℕ} {start base : ℕ} (kind : ℕ) {due plain : ℕ} (k : plain ≡ plain_kind kind) where
  pub none_blank : asks_content plain ≡ false → BlankFor b start base kind due 0
  none_blank e o rows tag c R d =
      has_none d ∙ sym (and-false (has due d))
      ∙ sym (ap (λ (x : Bool). has due d && x) (blank_is c kind o (base + d) ∙ rw (sym k, e, and-false (value_blank c (base + d)))))

  module _ (asks : asks_content plain ≡ true) (r : ℕ) where
    pub numbers_blank : plain ≤ number_blank_kind → KeptBy (λ d. number_blank (number_in_row b start (base + d))) due r → BlankFor b start base kind due r
    numbers_blank l K o rows tag (numbers ns) R =
        kept_same _ _ due r
        (λ d m. ap number_blank (number_is b start (base + d) (number_in_row b start (base + d)) refl rows ns (refl, R.shown.1, R.shown.2) (R.inside d m))
        ∙ is_value kind k asks (numbers ns) o (base + d)) K
    numbers_blank l K o rows tag (texts ts) R =
        let e = number_kind tag (plain_kind kind) R.kind_fits_lem (omega arith) in let f : tag ≡ text_tag = R.shown.0 in absurd (omega arith)

    pub texts_blank : number_blank_kind < plain → KeptBy (λ d. text_blank (text_of b start (base + d))) due r → BlankFor b start base kind due r
    texts_blank l K o rows tag (numbers ns) R =
        let e = text_kind tag (plain_kind kind) R.kind_fits_lem (omega arith) in let f : tag ≡ number_tag = R.shown.0 in absurd (omega arith)
    texts_blank l K o rows tag (texts ts) R =
        kept_same _ _ due r
        (λ d m. ap text_blank (text_shown b start (base + d) rows ts (refl, R.shown.1, R.shown.2, R.shown.3) (R.inside d m))
        ∙ is_value kind k asks (texts ts) o (base + d)) K

-- a kind below the opposites, and an opposite one
module _ {b : List ℕ} {start base kind : ℕ} {o : List ℕ} {due : ℕ} (r : ℕ) (K : PlainMetFor b start base kind o due r) where
  pub plain_met : kind < opposite_from → MetFor b start base kind o due r
  unfolding outcome_of
  plain_met h rows tag c R = rw (lt-ltb kind opposite_from h) (K rows tag c R)

  pub opposite_met : (blank : ℕ) → opposite_from ≤ kind → BlankFor b start base kind due blank → MetFor b start base kind o due (bit_xor due (bit_or r blank))
  unfolding outcome_of
  opposite_met blank h B rows tag c R =
      rw (le-ltb kind opposite_from h)
      (kept_same _ _ due (bit_xor due (bit_or r blank)) (λ d m. truth_opposite (plain_of c (plain_kind kind) o (base + d)))
      (kept_others (λ d. truth (at d) || is_blank (at d)) due (bit_or r blank) (kept_either _ _ due r blank (K rows tag c R) (kept_same _ _ due blank (λ d m. blank_turned kind (at d)) (B o rows tag c R)))))
    where
      at : ℕ → Outcome
      at d = plain_of c (plain_kind kind) o (base + d)
