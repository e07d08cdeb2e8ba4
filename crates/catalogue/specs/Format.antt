-- The numbers of the catalogue's format: tags, sizes, limits, refusals.
use Rattle.std.specs.Prelude.{ℕ}

abbrev pub first_tag : ℕ
first_tag = 67

abbrev pub first_size : ℕ
first_size = 3

abbrev pub number_tag : ℕ
number_tag = 78

abbrev pub text_tag : ℕ
text_tag = 84

-- order 6: "one field, tag 87"
abbrev pub mark_tag : ℕ
mark_tag = 87

-- bytes of a number, and the number that means blank
abbrev pub number_size : ℕ
number_size = 4

abbrev pub blank_number : ℕ
blank_number = 4294967295

abbrev pub row_limit : ℕ
row_limit = 2048

abbrev pub column_limit : ℕ
column_limit = 16

-- refusals 1 to 6 and 23: "1, fewer than three bytes left or the length passes the end"
abbrev pub field_cut : ℕ
field_cut = 1

-- "2, not tag 67 with length 3"
abbrev pub not_catalogue : ℕ
not_catalogue = 2

-- "3, E over 2,048, or C zero or over 16"
abbrev pub counts_out_of_range : ℕ
counts_out_of_range = 3

-- "4, wrong tag, or length not 4 × E or 24 × E"
abbrev pub not_column : ℕ
not_column = 4

-- "5, a slot length over 23 or a non-zero byte after its text"
abbrev pub bad_slot : ℕ
bad_slot = 5

-- "6, bytes left over"; order 6: "any other byte there, or bytes after the mark"
abbrev pub bytes_left_over : ℕ
bytes_left_over = 6

-- order 6: "23, a wrong length or a stray bit"
abbrev pub bad_mark : ℕ
bad_mark = 23
