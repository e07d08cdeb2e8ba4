-- What a condition asks, read from a place of a text, its operand written to a place of an output; as `syntax` reads it from the text's rest there.
use Rattle.std.specs.Prelude.{ℕ, ◌+◌, ◌-◌, ◌≤◌, ◌≡◌, List, length, Option, None, Some}
use Rattle.fields.specs.Output.{Wrote}
use Rattle.predicate.specs.Kinds.{text_blank_kind}
use Rattle.predicate.specs.Meaning.{range_size}
use Rattle.syntax.specs.Parsed.{Parsed, wrong, ParsedTo}
use Rattle.syntax.specs.Conditions as ahead
use Rattle.operands.specs.declared.test.Test.{Test}

-- room from a place on for the longest operand that the rest of the text can spell: a byte has a byte or more there, but two numbers of four bytes
-- may have fewer
abbrev pub HasRoom : (text : List ℕ) → (at : ℕ) → (out : List ℕ) → (end : ℕ) → Type 0
HasRoom text at out end = (at ≤ length text) × (end + range_size + (length text - at) ≤ length out)

-- what a condition asks, its operand written; where it is wrong the output, the engine's own, may hold anything
pub record TestTo (text : List ℕ) (at : ℕ) (p : Parsed ahead.Asked) (end : ℕ) (old : List ℕ) (kind next stop : ℕ) (new : List ℕ) : Type 0 where
  pub operand : List ℕ
  pub read : ParsedTo text at p (ahead.asked kind operand) next
  pub wrote : Wrote end operand old stop new
  pub room : stop ≤ length old
  pub small : kind ≤ text_blank_kind

abbrev pub TestRead : (text : List ℕ) → (at : ℕ) → Parsed ahead.Asked → (end : ℕ) → (old : List ℕ) → Option Test → (new : List ℕ) → Type 0
TestRead text at p end old None new = p ≡ wrong
TestRead text at p end old (Some read) new = TestTo text at p end old read.kind read.next read.end new
