-- Reading a whole question: one open group inside the other, and the bytes of what is closed. Nothing here is to be believed:
-- proofs/Spelled.antt says that a text is read exactly if it is a spelling, and to that tree's bytes.
use Rattle.std.specs.Prelude.{ℕ, zero, suc, Bool, true, false, List, [], ◌∷◌, ◌++◌, length, eqb}
use Rattle.fields.specs.Header.{field_of}
use Rattle.query.specs.Format.{predicate_tag}
use Rattle.query.specs.Encode.{group_tag}
use Rattle.syntax.specs.Spelling.{group_word, closing, comma}
use Rattle.syntax.specs.Parsed.{Parsed, wrong, parsed, strip, stripped_then}
use Rattle.syntax.specs.Conditions.{condition_ahead}

-- "the text is over 16,384 bytes"
abbrev pub typed_limit : ℕ
typed_limit = 16384

-- a text as question bytes
pub data Typed : Type 0 where
  misspelled : Typed
  typed : (question : List ℕ) → Typed

-- an open group: the outcome that settles it, and the bytes of its members so far
pub record Frame : Type 0 where
  pub settling : Bool
  pub done : List ℕ

abbrev pub opened : (settling : Bool) → List Frame → List Frame
opened k s = record { settling = k; done = [] } ∷ s

-- the group with a member more
abbrev pub join_to : Frame → (member : List ℕ) → Frame
join_to f m = record { settling = f.settling; done = f.done ++ m }

-- its field
abbrev pub closed_with : Frame → (member : List ℕ) → List ℕ
closed_with f m = field_of (group_tag f.settling) (f.done ++ m)

abbrev pub condition_then : Parsed (List ℕ) → (List ℕ → List ℕ → Typed) → Typed
condition_then wrong next = misspelled
condition_then (parsed payload rest) next = next payload rest

abbrev pub if_so : Bool → (next : Unit {0} → Typed) → (other : Unit {0} → Typed) → Typed
if_so true next other = next tt
if_so false next other = other tt

-- The first argument bounds the steps, of which each takes a byte or more.
unfoldable mutual
  -- a member is expected
  pub start : ℕ → (tags : List ℕ) → List Frame → (text : List ℕ) → Typed
  start zero tags s text = misspelled
  start (suc k) tags s text =
      stripped_then (strip (group_word false) text) (λ rest. start k tags (opened false s) rest)
      (stripped_then (strip (group_word true) text) (λ rest. start k tags (opened true s) rest)
      (condition_then (condition_ahead tags text) (λ payload rest. after k tags (field_of predicate_tag payload) s rest)))

  -- a member with these bytes stands before the text
  pub after : ℕ → (tags member : List ℕ) → List Frame → (text : List ℕ) → Typed
  after zero tags m s text = misspelled
  after (suc k) tags m [] [] = typed m
  after (suc k) tags m [] (x ∷ rest) = misspelled
  after (suc k) tags m (f ∷ s) [] = misspelled
  after (suc k) tags m (f ∷ s) (x ∷ rest) =
      if_so (eqb x comma) (λ _. start k tags (join_to f m ∷ s) rest)
      (λ _. if_so (eqb x closing) (λ _. after k tags (closed_with f m) s rest) (λ _. misspelled))

-- over the tags of a catalogue's columns
unfoldable pub question_of : (tags text : List ℕ) → Typed
question_of tags text = start (suc (length text)) tags [] text
