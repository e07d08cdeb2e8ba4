-- QUESTIONS THAT STAFF CAN TYPE (order 4), sentence by sentence; proofs/TypedPage.antt proves each statement of this page.
-- It speaks of `typed_of` of Typed.antt, to which the contract of `searchroom_typed` ties every word and output. What is typed is a *spelling*
-- (crates/syntax/specs/Spelling.antt); how a text is read need not be believed. Words as on the demands page.
use Rattle.std.specs.Prelude.{ℕ, ◌%◌, ◌^◌, ◌≤◌, ◌<◌, ◌≡◌, ◌↔◌, List, [], ◌∷◌, length, take, drop}
use Rattle.fields.specs.Decoded.{refused}
use Rattle.fields.specs.Numbers.{Bytes}
use Rattle.catalogue.specs.Catalogue.{Catalogue}
use Rattle.catalogue.specs.Decode.{decode_catalogue}
use Rattle.predicate.specs.Payload.{tags_of}
use Rattle.query.specs.Decode.{decode_query}
use Rattle.query.specs.Encode.{encode, payloads}
use Rattle.strategy.specs.Tree.{Tree}
use Rattle.syntax.specs.Spelling.{spelling, Typable}
use Rattle.answers.specs.Written.{Written}
use Rattle.task.specs.Input.{Input}
use Rattle.demands.specs.Sentences.{Sentences, says}
use Rattle.demands.specs.Demands.{Gives, IsCatalogue, Reads, Keeps, Breaks}
use Rattle.demands.specs.Typed.{typed_of}

-- WORDS OF THIS PAGE

-- the text spells the question of these bytes: it is the spelling of a tree that can be typed over the catalogue's columns, and they are the tree's bytes
abbrev pub Spells : Catalogue → (text question : List ℕ) → Type 0
Spells C text q = (t : Tree (List ℕ)) × Typable (tags_of C) t × (text ≡ spelling t) × (q ≡ encode t)

-- what the call leaves: its word and the output
abbrev pub after_typing : (catalogue text output : List ℕ) → Written
after_typing b text output = typed_of b text output

-- such a text is taken: "21, the text is over 16,384 bytes or isn't so spelled"
abbrev pub Taken : Catalogue → (text question : List ℕ) → Type 0
Taken C text q = (length text ≤ 16384) × Spells C text q

-- "22, the output is too short, last"
abbrev pub typed_sentences : (question output : List ℕ) → Input → Sentences
typed_sentences q output i = says 22 (length q ≤ length output) ∷ []

-- a typed question that breaks nothing, and its bytes
pub record TypedKept (catalogue text output question : List ℕ) (i : Input) : Type 0 where
  pub taken : Taken i.catalogue text question
  pub kept : Keeps catalogue question (typed_sentences question output) i

-- the first check that fails: 1 to 6 and 23 for the catalogue, 21 "after 1 to 6 and before 7 to 14 for those bytes", 22 last
pub data TypedBroken (catalogue text output : List ℕ) (e : ℕ) : Type 0 where
  typed_catalogue : decode_catalogue catalogue ≡ refused e → TypedBroken catalogue text output e
  typed_text : (C : Catalogue) → IsCatalogue catalogue C → ((q : List ℕ) → Taken C text q → ⊥) → e ≡ 21 → TypedBroken catalogue text output e
  typed_question : (C : Catalogue) (q : List ℕ) → IsCatalogue catalogue C → Taken C text q → Breaks catalogue q (typed_sentences q output) e
      → TypedBroken catalogue text output e

-- THE CALL

-- the number of every refusal: "It takes this spelling and no other"
abbrev pub TypedNumber : Type 0
TypedNumber =
    (b text old : List ℕ) → Bytes b → (e : ℕ) → 0 < e → ((after_typing b text old).word % 2 ^ 8 ≡ e) ↔ TypedBroken b text old e

-- "A refusal gives its number, with zeros for every other result, and alters nothing lent."
abbrev pub TypedRefused : Type 0
TypedRefused =
    (b text old : List ℕ) (e : ℕ) → TypedBroken b text old e → Gives (after_typing b text old).word e 0 0 0 × ((after_typing b text old).output ≡ old)

-- where nothing is broken it is accepted
abbrev pub TypedAccepted : Type 0
TypedAccepted =
    (b text old : List ℕ) → Bytes b → ((after_typing b text old).word % 2 ^ 8 ≡ 0) ↔ ((q : List ℕ) × (i : Input) × TypedKept b text old q i)

-- "reads such a text into question bytes": these stand at the output's front, and their number is the third result
abbrev pub TypedWrites : Type 0
TypedWrites =
    (b text old q : List ℕ) (i : Input) → TypedKept b text old q i
    → Gives (after_typing b text old).word 0 0 0 (length q) × (take (length q) (after_typing b text old).output ≡ q)

-- "an output keeps its further bytes"
abbrev pub TypedFurther : Type 0
TypedFurther =
    (b text old q : List ℕ) (i : Input) → TypedKept b text old q i
    → (length (after_typing b text old).output ≡ length old) × (drop (length q) (after_typing b text old).output ≡ drop (length q) old)

-- so many bytes are enough for any question
abbrev pub TypedMost : Type 0
TypedMost = (b q : List ℕ) (i : Input) → Reads b q i → length q ≤ 3139

-- ONE TYPED FORM

-- "each accepted question has one typed form": it has one, short enough to be taken, "and typing it returns the same bytes"
abbrev pub TypedBack : Type 0
TypedBack =
    (b q : List ℕ) (i : Input) → Reads b q i
    → (length (spelling (payloads i.query)) ≤ 16384)
    × ((old : List ℕ) → length q ≤ length old → TypedKept b (spelling (payloads i.query)) old q i)

-- and no second, whatever the catalogue: a text that is taken is the only one that spells its bytes
abbrev pub TypedOnce : Type 0
TypedOnce =
    (C C' : Catalogue) (text text' q : List ℕ) → length text ≤ 16384 → Spells C text q → Spells C' text' q → text ≡ text'

-- of the numbers for a question's bytes, 7, 8, 9 and 14 never come: the bytes of a tree are whole fields, known tags, groups with members, and one field
abbrev pub TypedNever : Type 0
TypedNever =
    (C : Catalogue) (text q : List ℕ) (e : ℕ) → length text ≤ 16384 → Spells C text q → decode_query C q ≡ refused e → (10 ≤ e) × (e ≤ 13)
