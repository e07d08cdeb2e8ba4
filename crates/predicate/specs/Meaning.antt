-- The whole meaning of a predicate, document 01's condition, over values: a number, a text or an operand as a list of bytes.
-- Nothing here knows how a catalogue or a query lies in its bytes.
use Rattle.std.specs.Prelude.{ℕ, ◌+◌, Bool, true, false, not, ◌&&◌, ◌||◌, cond, List, [], ◌∷◌, length, get_or, ltb, leb, eqb}
use Rattle.fields.specs.Numbers.{number_at}
use Rattle.catalogue.specs.Format.{number_size, blank_number}
use Rattle.catalogue.specs.Catalogue.{Catalogue, Column, numbers, texts}
use Rattle.predicate.specs.Kinds.{range_kind, number_blank_kind, equals_kind, begins_kind, contains_kind, text_blank_kind, opposite_from, plain_kind, asks_content}
use Rattle.predicate.specs.declared.outcome.Outcome.{Outcome}
use Rattle.predicate.specs.declared.outcome.Outcome.TheVariants.{No, Yes, Blank}

abbrev pub between : (low high n : ℕ) → Bool
between low high n = leb low n && leb n high

-- Folding: "65 to 90 and 192 to 222 except 215 gain 32; every other byte is unchanged"
abbrev pub capital : ℕ → Bool
capital x = between 65 90 x || between 192 222 x && not (eqb x 215)

abbrev pub lower : ℕ → ℕ
lower x = cond (capital x) (x + 32) x

-- order 5's "224 to 229 become 97, 231 becomes 99, 232 to 235 become 101, 236 to 239 become 105, 241 becomes 110, 242 to 246 become 111,
-- 249 to 252 become 117, 253 and 255 become 121. The others, 230, 240, 248 and 254 among them, stay."
abbrev pub unaccented : ℕ → ℕ
unaccented x =
    cond (between 224 229 x) 97
    (cond (eqb x 231) 99
    (cond (between 232 235 x) 101
    (cond (between 236 239 x) 105
    (cond (eqb x 241) 110
    (cond (between 242 246 x) 111
    (cond (between 249 252 x) 117
    (cond (eqb x 253 || eqb x 255) 121 x)))))))

-- "After the present fold"
abbrev pub fold : ℕ → ℕ
fold x = unaccented (lower x)

unfoldable pub folded : List ℕ → List ℕ
folded [] = []
folded (x ∷ xs) = fold x ∷ folded xs

-- Tests of a text: "Text and operand are compared after folding"
unfoldable pub same : (operand text : List ℕ) → Bool
same [] [] = true
same [] (y ∷ ys) = false
same (x ∷ xs) [] = false
same (x ∷ xs) (y ∷ ys) = eqb x y && same xs ys

unfoldable pub begins : (operand text : List ℕ) → Bool
begins [] t = true
begins (x ∷ xs) [] = false
begins (x ∷ xs) (y ∷ ys) = eqb x y && begins xs ys

-- "Contains is tried from each starting place in the text"
unfoldable pub occurs : (operand text : List ℕ) → Bool
occurs o [] = false
occurs o (y ∷ ys) = begins o (y ∷ ys) || occurs o ys

abbrev pub equals : (operand text : List ℕ) → Bool
equals o t = same (folded o) (folded t)

abbrev pub begins_with : (operand text : List ℕ) → Bool
begins_with o t = begins (folded o) (folded t)

abbrev pub contains : (operand text : List ℕ) → Bool
contains o t = occurs (folded o) (folded t)

-- "length 0 means blank"
abbrev pub text_blank : List ℕ → Bool
text_blank t = eqb (length t) 0

-- "4,294,967,295 means blank"
abbrev pub number_blank : ℕ → Bool
number_blank n = eqb n blank_number

-- The operand of a range: "two four-byte numbers"
abbrev pub range_size : ℕ
range_size = number_size + number_size

abbrev pub low_of : (operand : List ℕ) → ℕ
low_of o = number_at o 0 number_size

abbrev pub high_of : (operand : List ℕ) → ℕ
high_of o = number_at o number_size number_size

-- "Kind 0, number from low to high", both among them; "Kind 1, number blank"
unfoldable pub number_test : (kind : ℕ) (operand : List ℕ) (n : ℕ) → Bool
number_test kind o n =
    cond (eqb kind range_kind) (between (low_of o) (high_of o) n)
    (cond (eqb kind number_blank_kind) (number_blank n) false)

-- "Kind 2 equals, 3 begins with, 4 contains", "Kind 5, text blank"
unfoldable pub text_test : (kind : ℕ) (operand text : List ℕ) → Bool
text_test kind o t =
    cond (eqb kind equals_kind) (equals o t)
    (cond (eqb kind begins_kind) (begins_with o t)
    (cond (eqb kind contains_kind) (contains o t)
    (cond (eqb kind text_blank_kind) (text_blank t) false)))

abbrev pub yes_if : Bool → Outcome
yes_if true = Yes
yes_if false = No

abbrev pub opposite : Outcome → Outcome
opposite No = Yes
opposite Yes = No
opposite Blank = Blank

-- what a run takes an outcome for: order 2's "A run takes blank as no"
abbrev pub truth : Outcome → Bool
truth No = false
truth Yes = true
truth Blank = false

-- order 2's "a blank field meets neither a condition nor its opposite": where it is asked what it holds, it answers blank
abbrev pub answers_blank : (kind : ℕ) (blank : Bool) → Bool
answers_blank kind blank = blank && asks_content kind

-- the outcome of a kind from 0 to 5, from whether the field is blank and whether it passes the kind's test
abbrev pub plain_outcome : (kind : ℕ) (blank test : Bool) → Outcome
plain_outcome kind blank test = cond (answers_blank kind blank) Blank (yes_if test)

-- of the value at a row, document 01's entry: whether it is blank, and whether it passes the kind's test
abbrev pub value_blank : Column → (row : ℕ) → Bool
value_blank (numbers ns) row = number_blank (get_or ns row 0)
value_blank (texts ts) row = text_blank (get_or ts row [])

abbrev pub value_test : Column → (kind : ℕ) (operand : List ℕ) (row : ℕ) → Bool
value_test (numbers ns) kind o row = number_test kind o (get_or ns row 0)
value_test (texts ts) kind o row = text_test kind o (get_or ts row [])

-- the outcome of a kind from 0 to 5 at a row
abbrev pub plain_of : Column → (kind : ℕ) (operand : List ℕ) (row : ℕ) → Outcome
plain_of c kind o row = plain_outcome kind (value_blank c row) (value_test c kind o row)

-- "Kinds 128 to 133: the opposite outcome of 0 to 5", and a blank is its own opposite
abbrev pub turned : (kind : ℕ) → Outcome → Outcome
turned kind a = cond (ltb kind opposite_from) a (opposite a)

unfoldable pub outcome_of : Column → (kind : ℕ) (operand : List ℕ) (row : ℕ) → Outcome
outcome_of c kind o row = turned kind (plain_of c (plain_kind kind) o row)

-- a condition of a query: "column, kind, operand's place (from the question's first byte)", with the operand itself. The place is for
-- the table of records; no meaning reads it.
pub record Predicate : Type 0 where
  pub column : ℕ
  pub kind : ℕ
  pub operand : List ℕ
  pub place : ℕ

-- the column that it asks; there is none past the last
abbrev pub column_asked : Catalogue → Predicate → Column
column_asked c p = get_or c.columns p.column (numbers [])

abbrev pub outcome : Catalogue → Predicate → (row : ℕ) → Outcome
outcome c p row = outcome_of (column_asked c p) p.kind p.operand row
