-- The probe log, order 1's copy of the register: one field for each probe, from its row, its predicate and its outcome.
use Rattle.std.specs.Prelude.{ℕ, List, [], ◌∷◌, ◌++◌}
use Rattle.fields.specs.Numbers.{bytes_of}
use Rattle.fields.specs.Header.{field_of}
use Rattle.bitmaps.specs.Sums.{joined}

-- "tag 76"
abbrev pub probe_tag : ℕ
probe_tag = 76

-- tag, length and payload
abbrev pub probe_field_size : ℕ
probe_field_size = 7

-- "one field per look: tag 76, length 4, entry (two bytes), condition number, outcome (1 yes, 0 no)"; order 2: it "gains outcome 2 for blank"
unfoldable pub probe_field : (row c outcome : ℕ) → List ℕ
probe_field row c o = field_of probe_tag (bytes_of 2 row ++ (c ∷ o ∷ []))

-- the fields of the predicates probed at a row, in this sequence, each with its outcome there
unfoldable pub row_fields : (outcomes : (c : ℕ) → ℕ) → (row : ℕ) → (sequence : List ℕ) → List ℕ
row_fields o row [] = []
row_fields o row (c ∷ cs) = probe_field row c (o c) ++ row_fields o row cs

-- "Entries ascend": row after row
unfoldable pub log_fields : (outcomes : (row c : ℕ) → ℕ) → (sequence : (row : ℕ) → List ℕ) → (rows : ℕ) → List ℕ
log_fields o s rows = joined (λ row. row_fields (o row) row (s row)) rows
