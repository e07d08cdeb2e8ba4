-- Document 01: "A field is a one-byte tag, a two-byte length, then that many bytes."
use Rattle.std.specs.Prelude.{ℕ, ◌+◌, ◌-◌, ◌≤◌, cond, ◌≡◌, Option, None, Some, List, ◌∷◌, ◌++◌, length, get_or, ltb}
use Rattle.fields.specs.declared.header.Field.{Field}
use Rattle.fields.specs.Numbers.{number_at, bytes_of}

abbrev pub header_size : ℕ
header_size = 3

-- the place after a field, as its header says
abbrev pub field_end : List ℕ → (at : ℕ) → ℕ
field_end b at = at + header_size + number_at b (at + 1) 2

-- a field with this tag whose payload lies there
abbrev pub some_field : (tag start end : ℕ) → Option Field
some_field tag start end = Some (record { tag = tag; start = start; end = end })

-- the field at a place inside an enclosing end; none: "fewer than three bytes left or the length passes the end"
unfoldable pub header_at : List ℕ → (at end : ℕ) → Option Field
header_at b at end =
    cond (ltb (end - at) header_size) None
    (cond (ltb (end - (at + header_size)) (number_at b (at + 1) 2)) None
    (some_field (get_or b at 0) (at + header_size) (field_end b at)))

-- a field's payload lies after its header and within the end
abbrev pub Inside : (at end : ℕ) → Option Field → Type 0
Inside at end None = Unit {0}
Inside at end (Some f) = (f.start ≡ at + header_size) × (f.start ≤ f.end) × (f.end ≤ end)

-- a header written, with this length
abbrev pub header_of : (tag size : ℕ) → List ℕ
header_of tag size = tag ∷ bytes_of 2 size

-- the same field written: "a one-byte tag, a two-byte length, then that many bytes"
unfoldable pub field_of : (tag : ℕ) → (payload : List ℕ) → List ℕ
field_of tag payload = tag ∷ (bytes_of 2 (length payload) ++ payload)
