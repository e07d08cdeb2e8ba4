-- What the code reads from a place of a text, as the definitions of `syntax` read it from the text's rest there.
use Rattle.std.specs.Prelude.{ℕ, ◌+◌, ◌≤◌, ◌<◌, ◌≡◌, List, [], length, drop, Option, None, Some}
use Rattle.fields.specs.Output.{Wrote}
use Rattle.syntax.specs.Parsed.{Parsed, wrong, parsed, absent, stripped, strip, ParsedTo}
use Rattle.syntax.specs.Conditions.{byte_before, quoted_ahead, escape_ahead}
use Rattle.lexer.specs.declared.number.Number.{Number}
use Rattle.lexer.specs.declared.quoted.QuotedByte.{QuotedByte}
use Rattle.lexer.specs.declared.quoted.QuotedByte.TheVariants as byte
use Rattle.lexer.specs.declared.quoted.Quoted.{Quoted}

-- a word, and the place behind it
pub record WordTo (text : List ℕ) (at : ℕ) (word : List ℕ) (next : ℕ) : Type 0 where
  pub gives : strip word (drop at text) ≡ stripped (drop next text)
  pub behind : next ≡ at + length word
  pub inside : next ≤ length text

abbrev pub WordRead : (text : List ℕ) → (at : ℕ) → (word : List ℕ) → Option ℕ → Type 0
WordRead text at w None = strip w (drop at text) ≡ absent
WordRead text at w (Some next) = WordTo text at w next

-- a number, which is within its limit
abbrev pub NumberRead : (text : List ℕ) → (at limit : ℕ) → Parsed ℕ → Option Number → Type 0
NumberRead text at limit p None = p ≡ wrong
NumberRead text at limit p (Some read) = ParsedTo text at p read.number read.next × (read.number ≤ limit)

-- a byte and what a quoted text goes on with behind it
pub record ByteTo (text : List ℕ) (at : ℕ) (p : Parsed (List ℕ)) (x next : ℕ) : Type 0 where
  pub gives : p ≡ byte_before x (quoted_ahead (drop next text))
  pub past : at < next
  pub inside : next ≤ length text

-- what a backslash at the place makes of the bytes behind it
abbrev pub EscapeRead : (text : List ℕ) → (at : ℕ) → Option QuotedByte → Type 0
EscapeRead text at None = escape_ahead (drop (at + 1) text) ≡ wrong
EscapeRead text at (Some byte.End) = ⊥
EscapeRead text at (Some (byte.Byte x next)) = ByteTo text at (escape_ahead (drop (at + 1) text)) x next

-- what stands at a place between quotes
abbrev pub ByteRead : (text : List ℕ) → (at : ℕ) → Option QuotedByte → Type 0
ByteRead text at None = quoted_ahead (drop at text) ≡ wrong
ByteRead text at (Some byte.End) = (quoted_ahead (drop at text) ≡ parsed [] (drop (at + 1) text)) × (at < length text)
ByteRead text at (Some (byte.Byte x next)) = ByteTo text at (quoted_ahead (drop at text)) x next

-- a quoted text, its bytes written from a place of the output on; where it is wrong the output, the engine's own, may hold anything
pub record QuotedTo (text : List ℕ) (at : ℕ) (p : Parsed (List ℕ)) (to : ℕ) (old : List ℕ) (next end : ℕ) (new : List ℕ) : Type 0 where
  pub operand : List ℕ
  pub read : ParsedTo text at p operand next
  pub wrote : Wrote to operand old end new
  pub room : end ≤ length old

abbrev pub QuotedRead : (text : List ℕ) → (at : ℕ) → Parsed (List ℕ) → (to : ℕ) → (old : List ℕ) → Option Quoted → (new : List ℕ) → Type 0
QuotedRead text at p to old None new = p ≡ wrong
QuotedRead text at p to old (Some read) new = QuotedTo text at p to old read.next read.end new
