-- Reading a condition: a number, a quoted text, a whole condition from the front of a text. As the machine, it need not be believed:
-- proofs/ConditionLaws.antt says that a condition is read exactly where its spelling stands.
use Rattle.std.specs.Prelude.{ℕ, ◌+◌, ◌-◌, ◌*◌, Bool, ◌&&◌, cond, List, [], ◌∷◌, ◌++◌, ltb, leb, eqb}
use Rattle.fields.specs.Numbers.{bytes_of}
use Rattle.predicate.specs.Kinds.{range_kind, equals_kind, begins_kind, contains_kind, opposite_from}
use Rattle.syntax.specs.Spelling.{not_word, column_word, space, in_word, to_word, blank_word, is_word, starts_word, has_word, quote, backslash, is_plain, blank_kind}
use Rattle.syntax.specs.Parsed.{Parsed, wrong, parsed, parsed_then, strip, stripped_then}

-- "Columns go up to 255 and numbers up to 4,294,967,295"
abbrev pub greatest_column : ℕ
greatest_column = 255

abbrev pub greatest_number : ℕ
greatest_number = 4294967295

abbrev pub is_digit : ℕ → Bool
is_digit x = leb 48 x && leb x 57

-- the digits behind a number that is not 0
unfoldable pub more_digits : (limit number : ℕ) → List ℕ → Parsed ℕ
more_digits limit n [] = parsed n []
more_digits limit n (x ∷ rest) =
    cond (is_digit x) (cond (leb (n * 10 + (x - 48)) limit) (more_digits limit (n * 10 + (x - 48)) rest) wrong) (parsed n (x ∷ rest))

-- a number up to a limit: "without leading zeros", so that 0 stands alone
unfoldable pub number_ahead : (limit : ℕ) → List ℕ → Parsed ℕ
number_ahead limit [] = wrong
number_ahead limit (x ∷ rest) = cond (eqb x 48) (parsed 0 rest) (cond (is_digit x) (more_digits limit (x - 48) rest) wrong)

-- one of "two digits 0-9A-F", and what is no such digit as 16
abbrev pub hex_value : ℕ → ℕ
hex_value x = cond (is_digit x) (x - 48) (cond (leb 65 x && leb x 70) (x - 55) 16)

abbrev pub is_hex : ℕ → Bool
is_hex x = ltb (hex_value x) 16

-- a byte before those that a quoted text goes on with
abbrev pub byte_before : ℕ → Parsed (List ℕ) → Parsed (List ℕ)
byte_before x p = parsed_then p (λ xs rest. parsed (x ∷ xs) rest)

-- the bytes up to the closing quote, byte by byte: at a plain one, behind a backslash, behind its first digit.
-- "every other byte is a backslash and two digits": a plain one is not
unfoldable mutual
  pub quoted_ahead : List ℕ → Parsed (List ℕ)
  quoted_ahead [] = wrong
  quoted_ahead (x ∷ rest) =
      cond (eqb x quote) (parsed [] rest)
      (cond (eqb x backslash) (escape_ahead rest)
      (cond (is_plain x) (byte_before x (quoted_ahead rest)) wrong))

  pub escape_ahead : List ℕ → Parsed (List ℕ)
  escape_ahead [] = wrong
  escape_ahead (x ∷ rest) = cond (is_hex x) (digit_ahead (hex_value x) rest) wrong

  pub digit_ahead : (high : ℕ) → List ℕ → Parsed (List ℕ)
  digit_ahead high [] = wrong
  digit_ahead high (x ∷ rest) =
      cond (is_hex x) (cond (is_plain (high * 16 + hex_value x)) wrong (byte_before (high * 16 + hex_value x) (quoted_ahead rest))) wrong

-- what a condition asks: its kind from 0 to 5, and its operand
pub record Asked : Type 0 where
  pub kind : ℕ
  pub operand : List ℕ

abbrev pub asked : (kind : ℕ) → (operand : List ℕ) → Asked
asked kind o = record { kind = kind; operand = o }

abbrev pub range_ahead : List ℕ → Parsed Asked
range_ahead text =
    parsed_then (number_ahead greatest_number text) (λ low rest.
    stripped_then (strip to_word rest) (λ rest.
    parsed_then (number_ahead greatest_number rest) (λ high rest.
    parsed (asked range_kind (bytes_of 4 low ++ bytes_of 4 high)) rest)) wrong)

abbrev pub text_ahead : (kind : ℕ) → List ℕ → Parsed Asked
text_ahead kind text =
    stripped_then (strip (quote ∷ []) text) (λ rest. parsed_then (quoted_ahead rest) (λ o rest. parsed (asked kind o) rest)) wrong

unfoldable pub test_ahead : (tags : List ℕ) → (column : ℕ) → List ℕ → Parsed Asked
test_ahead tags column text =
    stripped_then (strip in_word text) range_ahead
    (stripped_then (strip blank_word text) (λ rest. parsed (asked (blank_kind tags column) []) rest)
    (stripped_then (strip is_word text) (text_ahead equals_kind)
    (stripped_then (strip starts_word text) (text_ahead begins_kind)
    (stripped_then (strip has_word text) (text_ahead contains_kind) wrong))))

-- a condition behind `not ` or where none stands: its payload, the kind raised by so much
unfoldable pub plain_ahead : (tags : List ℕ) → (raised : ℕ) → List ℕ → Parsed (List ℕ)
plain_ahead tags raised text =
    stripped_then (strip column_word text) (λ rest.
    parsed_then (number_ahead greatest_column rest) (λ column rest.
    stripped_then (strip space rest) (λ rest.
    parsed_then (test_ahead tags column rest) (λ t rest.
    parsed (column ∷ (t.kind + raised) ∷ t.operand) rest)) wrong)) wrong

unfoldable pub condition_ahead : (tags : List ℕ) → List ℕ → Parsed (List ℕ)
condition_ahead tags text = stripped_then (strip not_word text) (plain_ahead tags opposite_from) (plain_ahead tags 0 text)
