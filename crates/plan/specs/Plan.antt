-- The plan of a run: of each predicate all that its outcomes ask for, so that no block looks up a column.
use Rattle.std.specs.Prelude.{ℕ, ◌<◌, ◌≡◌, List, length, get_or}
use Rattle.records.specs.declared.PredicateRecord.{PredicateRecord}
use Rattle.plan.specs.declared.table.Access.{Access}

-- what stands past a plan's end
abbrev pub no_access : Access
no_access = record { tag = 0; start = 0; kind = 0; place = 0; len = 0 }

abbrev pub access_at : (plan : List Access) → (c : ℕ) → Access
access_at P c = get_or P c no_access

-- the access of a predicate's record, by the tags and starts of the columns
abbrev pub access_of : (tags starts : List ℕ) → PredicateRecord → Access
access_of tags starts r = record { tag = get_or tags r.column 0; start = get_or starts r.column 0; kind = r.kind; place = r.place; len = r.len }

-- the column of a record is one of the tables'
abbrev pub HasColumn : (tags starts : List ℕ) → PredicateRecord → Type 0
HasColumn tags starts r = (r.column < length tags) × (r.column < length starts)

abbrev pub HasColumns : (tags starts : List ℕ) → (records : ℕ → PredicateRecord) → (n : ℕ) → Type 0
HasColumns tags starts R n = (c : ℕ) → c < n → HasColumn tags starts (R c)

-- the plan of the first n predicates, of which these are the records
abbrev pub Planned : (tags starts : List ℕ) → (records : ℕ → PredicateRecord) → (plan : List Access) → (n : ℕ) → Type 0
Planned tags starts R plan n = (c : ℕ) → c < n → access_at plan c ≡ access_of tags starts (R c)
