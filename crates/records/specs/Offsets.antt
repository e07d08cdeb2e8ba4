-- Where the fields of the predicates read so far begin in the query: what the reading looks back at.
use Rattle.std.specs.Prelude.{ℕ, ◌+◌, ◌≤◌, ◌<◌, ◌≡◌, List, length, get_or}
use Rattle.fields.specs.Header.{header_size, field_end}
use Rattle.predicate.specs.Payload.{payload_head}
use Rattle.query.specs.Format.{predicate_limit}

-- the payload of predicate c is the bytes from its start up to its end
abbrev pub start_at : (offsets : List ℕ) → (c : ℕ) → ℕ
start_at offsets c = get_or offsets c 0 + header_size

abbrev pub end_at : (q offsets : List ℕ) → (c : ℕ) → ℕ
end_at q offsets c = field_end q (get_or offsets c 0)

-- a payload lies in the query, and has a column and a kind
abbrev pub HasPayload : (q offsets : List ℕ) → (c : ℕ) → Type 0
HasPayload q offsets c = (start_at offsets c + payload_head ≤ end_at q offsets c) × (end_at q offsets c ≤ length q)

-- the fields of the first n predicates begin at these offsets and lie in the query
pub record HasFields (q offsets : List ℕ) (n : ℕ) : Type 0 where
  pub sized : length offsets ≡ predicate_limit
  pub few : n ≤ predicate_limit
  pub each : (c : ℕ) → c < n → HasPayload q offsets c
