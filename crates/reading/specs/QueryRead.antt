-- What a reading hands on: all that a caller needs of the engine's tables, and no fact about bytes.
use Rattle.std.specs.Prelude.{ℕ, ◌≤◌, ◌<◌, ◌≡◌, true, List, length, Result, Ok}
use Rattle.fields.specs.Decoded.{Decoded, refused, accepted}
use Rattle.strategy.specs.Tree.{size, Numbered, NonEmpty}
use Rattle.strategy.specs.Propagation.{enclosing}
use Rattle.predicate.specs.Payload.{valid_payload}
use Rattle.query.specs.declared.refusal.Refusal.{Refusal}
use Rattle.query.specs.Format.{predicate_limit}
use Rattle.query.specs.Query.{Query}
use Rattle.query.specs.Decode.{payload_of}
use Rattle.records.specs.Offsets.{HasFields}
use Rattle.records.specs.Table.{record_at, predicate_in, predicates_at}
use Rattle.reading.specs.declared.tables.Tables.{Tables}
use Rattle.reading.specs.Tables.{HasTables}
use Rattle.reading.specs.MemberRead.{RefusedBy}
use Rattle.ancestors.specs.Ancestors.{ancestors_of, Low, Spans}
use Rattle.query.specs.Sound.{IsRefusal}

-- one record: a condition over columns with these tags
pub record Recorded (tags q offsets : List ℕ) (c : ℕ) : Type 0 where
  pub valid : valid_payload tags (payload_of (predicate_in q (record_at q offsets c))) ≡ true
  pub column : (record_at q offsets c).column < length tags
  pub kind : (record_at q offsets c).kind < 256

-- the tables show this query, of n predicates
pub record Tabled (tags q : List ℕ) (Q : Query) (n : ℕ) (T : Tables) : Type 0 where
  pub some : 1 ≤ n
  pub few : n ≤ predicate_limit
  pub count : length Q.predicates ≡ n
  pub leaves : size Q.tree ≡ n
  pub numbered : Numbered Q.tree 0
  pub full : NonEmpty Q.tree
  pub located : HasFields q T.offsets n
  pub shown : predicates_at q T.offsets n ≡ Q.predicates
  pub each : (c : ℕ) → c < n → Recorded tags q T.offsets c
  pub ancestors : (c : ℕ) → c < n → ancestors_of T.ancestors c ≡ enclosing Q.tree 0 c
  pub low : Low n T.ancestors
  pub spans : Spans n T.ancestors
  pub sized : HasTables T

-- a refusal is handed on by its number, an accepted query by its tables
abbrev pub QueryRead : (tags q : List ℕ) → Decoded Query → Result ℕ Refusal → Tables → Type 0
QueryRead tags q (refused e) r T = RefusedBy e r × IsRefusal e
QueryRead tags q (accepted Q) r T = (r ≡ Ok (length Q.predicates)) × Tabled tags q Q (length Q.predicates) T
