-- The numbers of a predicate's kinds.
use Rattle.std.specs.Prelude.{ℕ, ◌-◌, Bool, ◌&&◌, ◌||◌, cond, ltb, leb, eqb}

abbrev pub range_kind : ℕ
range_kind = 0

abbrev pub number_blank_kind : ℕ
number_blank_kind = 1

abbrev pub equals_kind : ℕ
equals_kind = 2

abbrev pub begins_kind : ℕ
begins_kind = 3

abbrev pub contains_kind : ℕ
contains_kind = 4

abbrev pub text_blank_kind : ℕ
text_blank_kind = 5

-- "Kinds 128 to 133: the opposite outcome of 0 to 5"; order 2: or blank, as theirs is
abbrev pub opposite_from : ℕ
opposite_from = 128

-- the kind that is answered, or whose opposite is
unfoldable pub plain_kind : (kind : ℕ) → ℕ
plain_kind kind = cond (ltb kind opposite_from) kind (kind - opposite_from)

-- order 2's "for kinds 0 and 2 to 4": those that ask what a field holds. "Kinds 1, 5, 129 and 133 never answer blank."
unfoldable pub asks_content : (plain : ℕ) → Bool
asks_content plain = eqb plain range_kind || leb equals_kind plain && leb plain contains_kind
