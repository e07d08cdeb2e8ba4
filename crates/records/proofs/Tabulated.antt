-- A table that is filled from the front: the records of the first c predicates, and after them what stood there before.
use mathlib.Core.Path.{◌≡◌, refl, sym, ap, ◌∙◌}
use Prim.Native.Nat.{ℕ, zero, suc, ◌+◌, ◌≤◌, ◌<◌}
use mathlib.Core.Logic.{inl, inr}
use mathlib.Core.List.{List, [], ◌∷◌, ◌++◌}
use native.Mathlib.Nat.{lt_of_lt_of_le, le_of_suc-le-suc, not-suc-le-zero, eq-or-lt_of_le}
use native.Mathlib.Numerals.{add-one}
use native.Mathlib.Omega.{arith}
use lib.ListN.{length, get_or, set, drop, length-append, length-drop, get_or-append}
use lib.Seq.{drop-cons, append_snoc, set_at, get_or_at}
use Rattle.records.specs.declared.PredicateRecord.{PredicateRecord}
use Rattle.records.specs.Offsets.{HasFields}
use Rattle.records.specs.Table.{record_at, no_record, record_in, records_of, HasRecord}

-- one element more of a list that is filled from the front, whatever d is
grow : {A : Type 0} (p : List A) (r : A) (old : List A) (c : ℕ) (d : A) → length p ≡ c → c < length old → set (p ++ drop c old) c r ≡ p ++ (r ∷ []) ++ drop (suc c) old
grow {A} p r old c d e h =
    ap (λ (l : List A). set (p ++ l) c r) (drop-cons old c d h) ∙ set_at p (get_or old c d) (drop (suc c) old) r c e ∙ sym (append_snoc p r (drop (suc c) old))

module _ (q offsets : List ℕ) where
  pub has_record : (n c : ℕ) → HasFields q offsets n → c < n → HasRecord q offsets c
  has_record n c s h = (s.sized, lt_of_lt_of_le h s.few, s.each c h)

  length_records : (c : ℕ) → length (records_of q offsets c) ≡ c
  unfolding records_of
  length_records zero = refl
  length_records (suc c) = simp (length-append, length_records c, add-one)

  record_listed : (n c : ℕ) → c < n → record_in (records_of q offsets n) c ≡ record_at q offsets c
  unfolding records_of
  record_listed zero c l = absurd (not-suc-le-zero l)
  record_listed (suc n) c l = elim (eq-or-lt_of_le (le_of_suc-le-suc l)) [
    | inl e ↦ get_or_at (records_of q offsets n) (record_at q offsets n) [] no_record c (length_records n ∙ sym e) ∙ ap (record_at q offsets) (sym e)
    | inr k ↦ get_or-append (records_of q offsets n) _ no_record c (omega (arith, length_records n)) ∙ record_listed n c k
  ]

  module _ (table : List PredicateRecord) where
    -- the list where the first c records are stored
    abbrev pub filled : ℕ → List PredicateRecord
    filled c = records_of q offsets c ++ drop c table

    pub filled_none : filled 0 ≡ table
    unfolding records_of
    filled_none = refl

    pub length_filled : (c : ℕ) → c ≤ length table → length (filled c) ≡ length table
    length_filled c h = let e = length-append (records_of q offsets c) (drop c table) in omega (arith, e, length_records c, length-drop c table)

    -- one record more
    pub filled_next : (c : ℕ) (r : PredicateRecord) → c < length table → r ≡ record_at q offsets c → set (filled c) c r ≡ filled (c + 1)
    unfolding records_of
    filled_next c r h e =
        grow (records_of q offsets c) r table c no_record (length_records c) h ∙ ap (λ (s : PredicateRecord). records_of q offsets c ++ (s ∷ []) ++ drop (suc c) table) e ∙ ap filled (sym (add-one c))

    -- a record of the list is that of its predicate
    pub record_in_lem : (n c : ℕ) → c < n → record_in (filled n) c ≡ record_at q offsets c
    record_in_lem n c l = get_or-append (records_of q offsets n) _ no_record c (omega (arith, length_records n)) ∙ record_listed n c l
