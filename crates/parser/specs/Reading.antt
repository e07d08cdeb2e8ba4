-- A text that the code reads from place to place, as the machine of `syntax` reads it: what the machine gives from here on, it gives for the whole.
use Rattle.std.specs.Prelude.{ℕ, ◌+◌, ◌*◌, ◌≤◌, ◌<◌, ◌≡◌, Bool, true, false, List, [], ◌++◌, length, get_or, drop, Option, None, Some}
use Rattle.fields.specs.Output.{Front}
use Rattle.query.specs.Encode.{group_tag}
use Rattle.syntax.specs.Spelling.{group_word, closing}
use Rattle.syntax.specs.Parsed.{absent, strip}
use Rattle.syntax.specs.Machine.{typed_limit, Typed, misspelled, typed, Frame, start, after}
use Rattle.lexer.specs.Lexed.{WordTo}
use Rattle.parser.specs.declared.groups.Place.{Place}
use Rattle.parser.specs.declared.groups.GroupWord.{GroupWord}
use Rattle.parser.specs.Open.{flat, open_at}

-- a text that may be taken, and room for what it can spell: a question takes at most one and a half times the bytes of its text, and a condition that
-- turns out wrong is begun behind it
abbrev pub Fits : (text out : List ℕ) → Type 0
Fits text out = (length text ≤ typed_limit) × (3 * length text + 26 ≤ 2 * length out)

-- the place in text and output: these groups are open, and behind them stand these bytes
pub record Standing (text : List ℕ) (here : Place) (out : List ℕ) (frames : List Frame) (member : List ℕ) : Type 0 where
  pub front : Front (flat frames ++ member) here.end out
  pub opens : here.innermost ≡ open_at frames
  pub inside : here.at ≤ length text
  pub room : 2 * here.end ≤ 3 * here.at

-- a member is expected there, of a text that gives this
pub record Expecting (whole : Typed) (tags text : List ℕ) (here : Place) (out : List ℕ) : Type 0 where
  pub frames : List Frame
  pub standing : Standing text here out frames []
  pub steps : ℕ
  pub enough : length text < here.at + steps
  pub gives : whole ≡ start steps tags frames (drop here.at text)

-- a member stands before it
pub record Behind (whole : Typed) (tags text : List ℕ) (here : Place) (out : List ℕ) : Type 0 where
  pub frames : List Frame
  pub member : List ℕ
  pub standing : Standing text here out frames member
  pub steps : ℕ
  pub enough : length text < here.at + steps
  pub gives : whole ≡ after steps tags member frames (drop here.at text)

-- no group begins at a place; or one does, with its tag
abbrev pub NoGroup : (text : List ℕ) → (at : ℕ) → Type 0
NoGroup text at = (strip (group_word false) (drop at text) ≡ absent) × (strip (group_word true) (drop at text) ≡ absent)

abbrev pub GroupAt : (text : List ℕ) → (at : ℕ) → Option GroupWord → Type 0
GroupAt text at None = NoGroup text at
GroupAt text at (Some word) = (k : Bool) × (word.tag ≡ group_tag k) × WordTo text at (group_word k) word.next

-- the groups that begin there are opened: where a member is expected, it still is, and it is a condition
abbrev pub GroupsOpenable : (text : List ℕ) → Place → (out : List ℕ) → Type 0
GroupsOpenable text here out = Fits text out × ((whole : Typed) × (tags : List ℕ) × Expecting whole tags text here out)

pub record Opened (text : List ℕ) (from : Place) (old : List ℕ) (here : Place) (new : List ℕ) : Type 0 where
  pub none : NoGroup text here.at
  pub after : from.at ≤ here.at
  pub keeps : (whole : Typed) (tags : List ℕ) → Expecting whole tags text from old → Expecting whole tags text here new

-- the groups that end there are closed: where a member stands, one still does, and no other group ends
abbrev pub GroupsClosable : (text : List ℕ) → Place → (out : List ℕ) → Type 0
GroupsClosable text here out = Fits text out × ((whole : Typed) × (tags : List ℕ) × Behind whole tags text here out)

pub record Closed (text : List ℕ) (from : Place) (old : List ℕ) (here : Place) (new : List ℕ) : Type 0 where
  pub none : (here.innermost ≡ 0 → ⊥) → here.at < length text → get_or text here.at 0 ≡ closing → ⊥
  pub after : from.at ≤ here.at
  pub keeps : (whole : Typed) (tags : List ℕ) → Behind whole tags text from old → Behind whole tags text here new

-- a condition with the groups that begin before it and end behind it
abbrev pub MemberReadable : (tags text : List ℕ) → Place → (out : List ℕ) → Type 0
MemberReadable tags text here out = Fits text out × ((whole : Typed) × Expecting whole tags text here out)

pub record MemberTo (tags text : List ℕ) (from : Place) (old : List ℕ) (here : Place) (new : List ℕ) : Type 0 where
  pub none : (here.innermost ≡ 0 → ⊥) → here.at < length text → get_or text here.at 0 ≡ closing → ⊥
  pub past : from.at < here.at
  pub inside : here.at ≤ length text
  pub keeps : (whole : Typed) → Expecting whole tags text from old → Behind whole tags text here new

abbrev pub MemberRead : (tags text : List ℕ) → (from : Place) → (old : List ℕ) → Option Place → (new : List ℕ) → Type 0
MemberRead tags text from old None new = (whole : Typed) → Expecting whole tags text from old → whole ≡ misspelled
MemberRead tags text from old (Some here) new = MemberTo tags text from old here new

-- the whole text; where it is misspelled the output, the engine's own, may hold anything
pub record QuestionTo (whole : Typed) (size : ℕ) (new : List ℕ) : Type 0 where
  pub bytes : List ℕ
  pub gives : whole ≡ typed bytes
  pub front : Front bytes size new

abbrev pub TextRead : Typed → Option ℕ → (new : List ℕ) → Type 0
TextRead whole None new = whole ≡ misspelled
TextRead whole (Some size) new = QuestionTo whole size new
