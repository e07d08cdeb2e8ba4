-- Equals and begins from a text's length and its bytes.
use Prim.Native.Nat.{ℕ, zero, suc, ◌+◌, ◌≤◌, ◌<◌}
use native.Mathlib.Numerals.{add-one}
use native.Mathlib.Omega.{arith}
use mathlib.Core.Path.{◌≡◌, refl, sym, ap, ◌∙◌}
use mathlib.Core.Bool.{Bool, true, false}
use mathlib.Core.Logic.{◌⊎◌, inl, inr}
use mathlib.Core.List.{List}
use lib.ListN.{length, get_or, drop, length-drop}
use lib.Seq.{get_or-drop, get_or-take}
use lib.Dec.{eqb, leb, ltb}
use borrow.Author.Tests.{eq-eqb}
use Rattle.bools.specs.Bools.{which, or_cases, clash, eqb_eq, leb_yes, leb_le, ltb_lt, ltb_le}
use Rattle.fields.specs.Numbers.{Bytes}
use Rattle.slots.specs.Slots.{slot_size, text_limit, text_at}
use Rattle.predicate.specs.Kinds.{equals_kind, begins_kind}
use Rattle.predicate.specs.Meaning.{fold, begins_with, text_test}
use Rattle.predicate.proofs.TextLaws.{begins_with_longer, begins_end, begins_more, equals_begins, equals_other}
use Rattle.heads.proofs.Found.{text_size}
use Rattle.fronts.specs.declared.sure.Sure.{Sure}
use Rattle.fronts.specs.Sure.{sure_size, sure_passes, SureFor}
use Rattle.fronts.specs.Fronts.{of_fronts, size_fits, BeginsAlike}

-- bytes that fold alike are passed over

front_passed : (o t : List ℕ) (n : ℕ) → length o ≤ length t → ((i : ℕ) → i < length o → i < n → fold (get_or t i 0) ≡ fold (get_or o i 0))
    → begins_with o t ≡ begins_with (drop n o) (drop n t)
front_passed o t zero l alike = refl
front_passed o t (suc n) l alike =
    let so_far = front_passed o t n l (λ i h k. alike i h (omega arith)) in
    let go : (ltb n (length o) ≡ true) ⊎ (ltb n (length o) ≡ false) → begins_with o t ≡ begins_with (drop (suc n) o) (drop (suc n) t)
    = elim [
      | inl e ↦
          (let h : n < length o = ltb_lt n (length o) e in
          rw (← add-one n) (begins_more o t n so_far h (omega arith) _ _ refl refl (sym (alike n h (omega arith)))))
      | inr e ↦
          (let h : length o ≤ n = ltb_le n (length o) e in
          sym (begins_end o t n so_far h) ∙ begins_end (drop (suc n) o) (drop (suc n) t) 0 refl (rw length-drop (omega arith)))
    ] in
    go (which (ltb n (length o)))

pub begun : (o t : List ℕ) → length o ≤ length t → BeginsAlike o t → begins_with o t ≡ begins_with (drop sure_size o) (drop sure_size t)
begun o t l alike = front_passed o t sure_size l alike

-- the test, from the lengths and from whether the text begins with the operand
module _ (kind : ℕ) (o t : List ℕ) (K : of_fronts kind ≡ true) where
  kinds : (eqb kind equals_kind ≡ true) ⊎ (eqb kind begins_kind ≡ true)
  kinds = or_cases (eqb kind equals_kind) (eqb kind begins_kind) K

  pub other_size : size_fits kind (length t) (length o) ≡ false → false ≡ text_test kind o t
  unfolding text_test
  other_size e = go kinds
    where
      shorter : (ltb (length t) (length o) ≡ true) ⊎ (ltb (length t) (length o) ≡ false) → leb (length o) (length t) ≡ false → length t < length o
      shorter (inl s) f = ltb_lt (length t) (length o) s
      shorter (inr s) f = clash (leb_yes (length o) (length t) (ltb_le (length t) (length o) s)) f

      go : (eqb kind equals_kind ≡ true) ⊎ (eqb kind begins_kind ≡ true) → false ≡ text_test kind o t
      go (inl q) = rw (eqb_eq kind equals_kind q) (equals_other o t (λ s. clash (eq-eqb _ _ s) (rw q at e)))
      go (inr q) = rw (eqb_eq kind begins_kind q) (begins_with_longer o t (shorter (which (ltb (length t) (length o))) (rw (eqb_eq kind begins_kind q) at e)))

  module _ (fits : size_fits kind (length t) (length o) ≡ true) where
    pub long_enough : length o ≤ length t
    long_enough = go kinds
      where
        go : (eqb kind equals_kind ≡ true) ⊎ (eqb kind begins_kind ≡ true) → length o ≤ length t
        go (inl q) = let e = eqb_eq (length t) (length o) (rw q at fits) in omega arith
        go (inr q) = leb_le (length o) (length t) (rw (eqb_eq kind begins_kind q) at fits)

    pub front_test : (r : Bool) → r ≡ begins_with o t → r ≡ text_test kind o t
    unfolding text_test
    front_test r e = go kinds
      where
        go : (eqb kind equals_kind ≡ true) ⊎ (eqb kind begins_kind ≡ true) → r ≡ text_test kind o t
        go (inl q) = rw (eqb_eq kind equals_kind q) (equals_begins o t r (eqb_eq (length t) (length o) (rw q at fits)) e)
        go (inr q) = rw (eqb_eq kind begins_kind q) e

-- a slot whose word passes: its text begins alike
pub sure_begins : (o b : List ℕ) (k : Sure) {t : List ℕ} (p : ℕ) → t ≡ text_at b p → p + slot_size ≤ length b → get_or b p 0 ≤ text_limit → Bytes b → SureFor o k → sure_passes b p k ≡ true → length o ≤ length t
    → BeginsAlike o t
unfolding text_at
sure_begins o b k {t} p t-is inside short bytes S passes l i h below =
    let n = text_size b p inside short in
    let m : i < get_or b p 0 = omega (arith, ap length t-is) in
    let e : get_or (text_at b p) i 0 ≡ get_or b (p + 1 + i) 0 = rw (get_or-take, get_or-drop) in
    ap (λ (x : List ℕ). fold (get_or x i 0)) t-is ∙ ap fold e ∙ S b p bytes passes i h below
