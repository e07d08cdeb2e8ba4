-- What a call has in hand once the catalogue and the question are accepted.
use Rattle.std.specs.Prelude.{◌≡◌, Result, Ok, Err, ℕ, List}
use Rattle.fields.specs.Decoded.{refused, accepted}
use Rattle.layout.specs.declared.Layout.{Layout}
use Rattle.layout.specs.Layout.{Laid}
use Rattle.predicate.specs.Payload.{tags_of}
use Rattle.reading.specs.declared.tables.Tables.{Tables}
use Rattle.reading.specs.Tables.{tables}
use Rattle.reading.specs.QueryRead.{Tabled}
use Rattle.input.specs.declared.begin.Beginning.{Beginning}
use Rattle.task.specs.Input.{Input, decode_input}
use Rattle.answers.specs.declared.refusal.Refusal.{Refusal}
use Rattle.answers.specs.Refusal.{refusal_number}

-- the decoded input, and all that the layout and the reading's tables show of it
pub record HasInput (b q : List ℕ) (r : Beginning) (T : Tables) : Type 0 where
  pub input : Input
  pub decoded : decode_input b q ≡ accepted input
  pub layout : Layout
  pub laid : Laid b layout input.catalogue
  pub tags : r.tags ≡ layout.tags
  pub starts : r.starts ≡ layout.starts
  pub rows : r.rows ≡ layout.rows
  pub mark : r.mark ≡ layout.mark
  pub tabled : Tabled (tags_of input.catalogue) q input.query r.n T

-- the same where the groups around the predicates don't matter
abbrev pub HasInputOffsets : (b q : List ℕ) → Beginning → (offsets : List ℕ) → Type 0
HasInputOffsets b q r offsets = (ancestors : List ℕ) × HasInput b q r (tables offsets ancestors)

-- the beginning of a call: a refusal of the input, or all in hand
abbrev pub InputRead : (b q : List ℕ) → Result Beginning Refusal → Tables → Type 0
InputRead b q (Err e) T = decode_input b q ≡ refused (refusal_number e)
InputRead b q (Ok r) T = HasInput b q r T
