-- The numbers of the query's format: tags, limits, refusals.
use Rattle.std.specs.Prelude.{ℕ, ◌-◌}

-- "Tag 65 is an all-of group, tag 79 an any-of group", "Tag 80 is a condition"
abbrev pub conjunction_tag : ℕ
conjunction_tag = 65

abbrev pub disjunction_tag : ℕ
disjunction_tag = 79

abbrev pub predicate_tag : ℕ
predicate_tag = 80

-- "There are 1 to 64 conditions"
abbrev pub predicate_limit : ℕ
predicate_limit = 64

-- "Groups may nest 8 deep, the outermost being 1"
abbrev pub depth_limit : ℕ
depth_limit = 8

-- how many groups are around a place inside which so many more are allowed
abbrev pub depth_of : (allowed : ℕ) → ℕ
depth_of allowed = depth_limit - allowed

-- refusals 7 to 14: "7, fewer than three bytes left in the enclosing payload or the length passes its end"
abbrev pub member_cut : ℕ
member_cut = 7

-- "8, unknown tag"
abbrev pub unknown_tag : ℕ
unknown_tag = 8

-- "9, empty"
abbrev pub empty_group : ℕ
empty_group = 9

-- "10, deeper than 8"
abbrev pub too_deep : ℕ
too_deep = 10

-- "11, payload under two bytes, no such column, unknown kind, kind not fitting the column, or operand of wrong length or range"
abbrev pub invalid_payload : ℕ
invalid_payload = 11

-- "12, it is the 65th"
abbrev pub too_many_predicates : ℕ
too_many_predicates = 12

-- "13, payload byte for byte that of an earlier condition"
abbrev pub repeated_payload : ℕ
repeated_payload = 13

-- "14, bytes left over"
abbrev pub bytes_after_query : ℕ
bytes_after_query = 14
