-- A condition that the code reads from a place of a text and writes to a place of an output, as `syntax` reads it from the text's rest there.
use Rattle.std.specs.Prelude.{ℕ, ◌+◌, ◌≡◌, List, [], ◌∷◌, ◌++◌, Option, None, Some}
use Rattle.fields.specs.Header.{header_size, header_of, field_of}
use Rattle.fields.specs.Output.{Wrote}
use Rattle.predicate.specs.Payload.{payload_head}
use Rattle.query.specs.Format.{predicate_tag}
use Rattle.syntax.specs.Parsed.{Parsed, wrong, ParsedTo}
use Rattle.conditions.specs.declared.condition.Condition.{Condition}

-- what stands before an operand of so many bytes: a field's header, the column and the kind
abbrev pub field_head : (size column kind : ℕ) → List ℕ
field_head size column kind = header_of predicate_tag (payload_head + size) ++ (column ∷ kind ∷ [])

abbrev pub field_head_size : ℕ
field_head_size = header_size + payload_head

-- a condition, its field written; where it is wrong the output, the engine's own, may hold anything
pub record ConditionTo (text : List ℕ) (at : ℕ) (p : Parsed (List ℕ)) (end : ℕ) (old : List ℕ) (next stop : ℕ) (new : List ℕ) : Type 0 where
  pub payload : List ℕ
  pub read : ParsedTo text at p payload next
  pub wrote : Wrote end (field_of predicate_tag payload) old stop new

abbrev pub ConditionRead : (text : List ℕ) → (at : ℕ) → Parsed (List ℕ) → (end : ℕ) → (old : List ℕ) → Option Condition → (new : List ℕ) → Type 0
ConditionRead text at p end old None new = p ≡ wrong
ConditionRead text at p end old (Some read) new = ConditionTo text at p end old read.next read.end new
