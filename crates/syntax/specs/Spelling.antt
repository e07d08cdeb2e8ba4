-- ORDER 4: how a question is typed. The spelling of a tree with a payload at each leaf, and the trees that have one over a catalogue's columns.
use Rattle.std.specs.Prelude.{ℕ, ◌+◌, ◌/◌, ◌%◌, ◌≤◌, ◌≡◌, Bool, true, false, ◌&&◌, ◌||◌, not, cond, ◌⊎◌, List, [], ◌∷◌, ◌++◌, length, get_or, ltb, leb, eqb}
use Rattle.fields.specs.Numbers.{Bytes}
use Rattle.fields.specs.Decimal.{decimal}
use Rattle.catalogue.specs.Format.{text_tag}
use Rattle.predicate.specs.Kinds.{range_kind, number_blank_kind, equals_kind, begins_kind, contains_kind, text_blank_kind, opposite_from, plain_kind}
use Rattle.predicate.specs.Meaning.{range_size, low_of, high_of}
use Rattle.predicate.specs.Payload.{payload_head, column_byte, kind_byte, operand_of}
use Rattle.strategy.specs.Tree.{Tree, leaf, group, Forest, none, more, NonEmpty, EachLeaf}

-- THE WORDS, as bytes

-- "`all(…)` and `any(…)`": what opens the group that this outcome settles
abbrev pub group_word : (settling : Bool) → List ℕ
group_word false = 97 ∷ 108 ∷ 108 ∷ 40 ∷ []
group_word true = 97 ∷ 110 ∷ 121 ∷ 40 ∷ []

-- what closes it, `)`, and "one comma"
abbrev pub closing : ℕ
closing = 41

abbrev pub comma : ℕ
comma = 44

-- "with `not ` before for an opposite"
abbrev pub not_word : List ℕ
not_word = 110 ∷ 111 ∷ 116 ∷ 32 ∷ []

-- `c` before a column's number, a space behind it
abbrev pub column_word : List ℕ
column_word = 99 ∷ []

abbrev pub space : List ℕ
space = 32 ∷ []

-- `in `, `..`, `blank`, `is `, `starts `, `has `
abbrev pub in_word : List ℕ
in_word = 105 ∷ 110 ∷ 32 ∷ []

abbrev pub to_word : List ℕ
to_word = 46 ∷ 46 ∷ []

abbrev pub blank_word : List ℕ
blank_word = 98 ∷ 108 ∷ 97 ∷ 110 ∷ 107 ∷ []

abbrev pub is_word : List ℕ
is_word = 105 ∷ 115 ∷ 32 ∷ []

abbrev pub starts_word : List ℕ
starts_word = 115 ∷ 116 ∷ 97 ∷ 114 ∷ 116 ∷ 115 ∷ 32 ∷ []

abbrev pub has_word : List ℕ
has_word = 104 ∷ 97 ∷ 115 ∷ 32 ∷ []

abbrev pub quote : ℕ
quote = 34

abbrev pub backslash : ℕ
backslash = 92

-- THE PRINTER

-- "two digits 0-9A-F"
abbrev pub hex_digit : ℕ → ℕ
hex_digit x = cond (ltb x 10) (48 + x) (55 + x)

-- "32 to 126 except quote and backslash stand for themselves"
abbrev pub is_plain : ℕ → Bool
is_plain x = leb 32 x && leb x 126 && not (eqb x quote || eqb x backslash)

-- "every other byte is a backslash and two digits 0-9A-F"
abbrev pub spell_byte : ℕ → List ℕ
spell_byte x = cond (is_plain x) (x ∷ []) (backslash ∷ hex_digit (x / 16) ∷ hex_digit (x % 16) ∷ [])

-- the bytes of an operand and the quote behind them
unfoldable pub spell_bytes : (operand : List ℕ) → List ℕ
spell_bytes [] = quote ∷ []
spell_bytes (x ∷ xs) = spell_byte x ++ spell_bytes xs

-- "In quotes stand none or more bytes"
abbrev pub in_quotes : (operand : List ℕ) → List ℕ
in_quotes o = quote ∷ spell_bytes o

-- what a condition asks, by its kind from 0 to 5: "`in 1700..1799`", "`blank`", "`is "ash"`, `starts "ash"`, `has "ash"`"
abbrev pub spell_test : (kind : ℕ) → (operand : List ℕ) → List ℕ
spell_test kind o =
    cond (eqb kind range_kind) (in_word ++ (decimal (low_of o) ++ (to_word ++ decimal (high_of o))))
    (cond (eqb kind equals_kind) (is_word ++ in_quotes o)
    (cond (eqb kind begins_kind) (starts_word ++ in_quotes o)
    (cond (eqb kind contains_kind) (has_word ++ in_quotes o)
    blank_word)))

-- "`c0 in 1700..1799`, .., with `not ` before for an opposite": a condition, from its payload
unfoldable pub spell_payload : (payload : List ℕ) → List ℕ
spell_payload payload =
    cond (ltb (kind_byte payload) opposite_from) [] not_word
    ++ (column_word ++ (decimal (column_byte payload) ++ (space ++ spell_test (plain_kind (kind_byte payload)) (operand_of payload))))

-- "Spell all-of and any-of groups `all(…)` and `any(…)`, one or more members parted by one comma, no spaces but those shown."
unfoldable mutual
  pub spelling : Tree (List ℕ) → List ℕ
  spelling (leaf payload) = spell_payload payload
  spelling (group k f) = group_word k ++ (spellings f ++ (closing ∷ []))

  pub spellings : Forest (List ℕ) → List ℕ
  spellings none = []
  spellings (more t f) = spelling t ++ others f

  pub others : Forest (List ℕ) → List ℕ
  others none = []
  others (more t f) = comma ∷ (spelling t ++ others f)

-- THE TREES THAT HAVE A SPELLING

-- "`blank` takes its kind from the column, and where the column does not exist it stands for kind 1"; over the tags of a catalogue's columns, of
-- which none is 0
abbrev pub blank_kind : (tags : List ℕ) → (column : ℕ) → ℕ
blank_kind tags column = cond (eqb (get_or tags column 0) text_tag) text_blank_kind number_blank_kind

-- a kind from 0 to 5 with its operand: two numbers of four bytes, "numbers up to 4,294,967,295"; no operand; "none or more bytes"
abbrev pub TestTypable : (tags : List ℕ) → (column kind : ℕ) → (operand : List ℕ) → Type 0
TestTypable tags column kind o =
    ((kind ≡ range_kind) × (length o ≡ range_size))
    ⊎ ((kind ≡ blank_kind tags column) × (length o ≡ 0))
    ⊎ ((equals_kind ≤ kind) × (kind ≤ contains_kind))

-- a payload that can be typed: all of it are bytes, so "Columns go up to 255"
pub record PayloadTypable (tags payload : List ℕ) : Type 0 where
  pub bytes : Bytes payload
  pub head : payload_head ≤ length payload
  pub test : TestTypable tags (column_byte payload) (plain_kind (kind_byte payload)) (operand_of payload)

-- groups have "one or more members", and each condition can be typed
abbrev pub Typable : (tags : List ℕ) → Tree (List ℕ) → Type 0
Typable tags t = NonEmpty t × EachLeaf (PayloadTypable tags) t
