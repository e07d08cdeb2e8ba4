-- A condition's payload, "column byte, kind byte, operand", and the part of refusal 11 that concerns one payload:
-- "payload under two bytes, no such column, unknown kind, kind not fitting the column, or operand of wrong length or range".
use Rattle.std.specs.Prelude.{ℕ, Bool, ◌&&◌, ◌||◌, cond, List, [], ◌∷◌, length, get_or, drop, ltb, leb, eqb}
use Rattle.catalogue.specs.Format.{number_tag, text_tag, blank_number}
use Rattle.slots.specs.Slots.{text_limit}
use Rattle.catalogue.specs.Catalogue.{Catalogue, Column, numbers, texts}
use Rattle.predicate.specs.Kinds.{range_kind, number_blank_kind, text_blank_kind, plain_kind}
use Rattle.predicate.specs.Meaning.{Predicate, range_size, low_of, high_of}

-- the tag of a column in the catalogue's format
abbrev pub tag_of : Column → ℕ
tag_of (numbers ns) = number_tag
tag_of (texts ts) = text_tag

unfoldable pub tags_in : List Column → List ℕ
tags_in [] = []
tags_in (c ∷ cs) = tag_of c ∷ tags_in cs

abbrev pub tags_of : Catalogue → List ℕ
tags_of c = tags_in c.columns

-- bytes before the operand
abbrev pub payload_head : ℕ
payload_head = 2

abbrev pub column_byte : List ℕ → ℕ
column_byte payload = get_or payload 0 0

abbrev pub kind_byte : List ℕ → ℕ
kind_byte payload = get_or payload 1 0

abbrev pub operand_of : List ℕ → List ℕ
operand_of payload = drop payload_head payload

-- the predicate of a payload whose operand stands at that place
abbrev pub predicate_of : (place : ℕ) (payload : List ℕ) → Predicate
predicate_of place payload =
    record { column = column_byte payload; kind = kind_byte payload; operand = operand_of payload; place = place }

-- kinds 0 and 1 are a number column's, 2 to 5 a text column's, and there are no others
unfoldable pub kind_fits : (tag kind : ℕ) → Bool
kind_fits tag kind = cond (leb kind number_blank_kind) (eqb tag number_tag) (leb kind text_blank_kind && eqb tag text_tag)

-- "two four-byte numbers, low ≤ high < 4,294,967,295"
unfoldable pub range_fits : (operand : List ℕ) → Bool
range_fits o = eqb (length o) range_size && (leb (low_of o) (high_of o) && ltb (high_of o) blank_number)

-- the blank kinds have no operand, the other text kinds "1 to 23 bytes"
unfoldable pub operand_fits : (kind : ℕ) (operand : List ℕ) → Bool
operand_fits kind o =
    cond (eqb kind range_kind) (range_fits o)
    (cond (eqb kind number_blank_kind || eqb kind text_blank_kind) (eqb (length o) 0)
    (leb 1 (length o) && leb (length o) text_limit))

-- over the tags of a catalogue's columns in their order
unfoldable pub valid_payload : (tags payload : List ℕ) → Bool
valid_payload tags payload =
    leb payload_head (length payload) &&
    (ltb (column_byte payload) (length tags) &&
    (kind_fits (get_or tags (column_byte payload) 0) (plain_kind (kind_byte payload)) &&
    operand_fits (plain_kind (kind_byte payload)) (operand_of payload)))
