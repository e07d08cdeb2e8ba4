-- A table that begins with the records of the first n predicates: what is planned of its records is planned of the predicates'.
use Rattle.std.proofs.Common.{◌≡◌, sym, ap, subst, ◌∙◌, ℕ, ◌<◌, List, ◌++◌, drop}
use Rattle.records.specs.declared.PredicateRecord.{PredicateRecord}
use Rattle.records.specs.Table.{record_at, record_in, records_of}
use Rattle.records.proofs.Tabulated.{record_in_lem}
use Rattle.plan.specs.declared.table.Access.{Access}
use Rattle.plan.specs.Plan.{access_of, HasColumn, HasColumns, Planned}

module _ (q offsets : List ℕ) (T T₀ : List PredicateRecord) (n : ℕ) (filled : T ≡ records_of q offsets n ++ drop n T₀) where
  same : (c : ℕ) → c < n → record_in T c ≡ record_at q offsets c
  same c l = ap (λ (t : List PredicateRecord). record_in t c) filled ∙ record_in_lem q offsets T₀ n c l

  module _ (tags starts : List ℕ) where
    pub have_columns : HasColumns tags starts (record_at q offsets) n → HasColumns tags starts (record_in T) n
    have_columns h c l = subst (HasColumn tags starts) (sym (same c l)) (h c l)

    pub planned : (P : List Access) → Planned tags starts (record_in T) P n → Planned tags starts (record_at q offsets) P n
    planned P h c l = h c l ∙ ap (access_of tags starts) (same c l)
