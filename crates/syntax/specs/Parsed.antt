-- What stands at the front of a text, and the text behind it. For the machine, which need not be believed.
use Rattle.std.specs.Prelude.{ℕ, ◌<◌, ◌≤◌, ◌≡◌, cond, List, [], ◌∷◌, length, drop, eqb}

pub data Parsed (A : Type 0) : Type 0 where
  wrong : Parsed A
  parsed : A → (rest : List ℕ) → Parsed A

abbrev pub parsed_then : {A B : Type 0} → Parsed A → (A → (rest : List ℕ) → Parsed B) → Parsed B
parsed_then wrong next = wrong
parsed_then (parsed x rest) next = next x rest

-- a text with a word taken from its front
pub data Stripped : Type 0 where
  absent : Stripped
  stripped : (rest : List ℕ) → Stripped

unfoldable pub strip : (word text : List ℕ) → Stripped
strip [] text = stripped text
strip (x ∷ w) [] = absent
strip (x ∷ w) (y ∷ text) = cond (eqb x y) (strip w text) absent

abbrev pub stripped_then : {A : Type 0} → Stripped → (List ℕ → A) → (other : A) → A
stripped_then absent next other = other
stripped_then (stripped rest) next other = next rest

-- what was parsed from a place of a text on, and the place behind it
pub record ParsedTo {A : Type 0} (text : List ℕ) (at : ℕ) (p : Parsed A) (x : A) (next : ℕ) : Type 0 where
  pub gives : p ≡ parsed x (drop next text)
  pub past : at < next
  pub inside : next ≤ length text
