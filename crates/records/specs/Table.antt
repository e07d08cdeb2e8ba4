-- Document 01: "a table of records: column, kind, operand's place (from the question's first byte) and length".
use Rattle.std.specs.Prelude.{ℕ, zero, suc, ◌+◌, ◌-◌, ◌<◌, ◌≡◌, List, [], ◌∷◌, ◌++◌, length, get_or, take, drop}
use Rattle.predicate.specs.Meaning.{Predicate}
use Rattle.predicate.specs.Payload.{payload_head}
use Rattle.records.specs.declared.PredicateRecord.{PredicateRecord}
use Rattle.query.specs.Format.{predicate_limit}
use Rattle.records.specs.Offsets.{start_at, end_at, HasPayload}

-- the record of the payload from `start` up to `end`
abbrev pub record_of : (q : List ℕ) → (start end : ℕ) → PredicateRecord
record_of q start end =
    record { column = get_or q start 0; kind = get_or q (start + 1) 0; place = start + payload_head; len = end - (start + payload_head) }

-- the record of predicate c
abbrev pub record_at : (q offsets : List ℕ) → (c : ℕ) → PredicateRecord
record_at q offsets c = record_of q (start_at offsets c) (end_at q offsets c)

abbrev pub HasRecord : (q offsets : List ℕ) → (c : ℕ) → Type 0
HasRecord q offsets c = (length offsets ≡ predicate_limit) × (c < predicate_limit) × HasPayload q offsets c

-- the records of the first n predicates
unfoldable pub records_of : (q offsets : List ℕ) → (n : ℕ) → List PredicateRecord
records_of q offsets zero = []
records_of q offsets (suc n) = records_of q offsets n ++ (record_at q offsets n ∷ [])

-- what stands past a table's end
abbrev pub no_record : PredicateRecord
no_record = record { column = 0; kind = 0; place = 0; len = 0 }

abbrev pub record_in : (table : List PredicateRecord) → (c : ℕ) → PredicateRecord
record_in T c = get_or T c no_record

-- the predicate that a record shows: its operand stands in the query
abbrev pub predicate_in : (q : List ℕ) → PredicateRecord → Predicate
predicate_in q r = record { column = r.column; kind = r.kind; operand = take r.len (drop r.place q); place = r.place }

-- the first n predicates
unfoldable pub predicates_at : (q offsets : List ℕ) → (n : ℕ) → List Predicate
predicates_at q offsets zero = []
predicates_at q offsets (suc n) = predicates_at q offsets n ++ (predicate_in q (record_at q offsets n) ∷ [])
