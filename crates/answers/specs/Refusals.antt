-- The refusals of the calls themselves, 15 to 18, 20 to 22 and 24.
use Rattle.std.specs.Prelude.{ℕ}

-- "15, the order is not n bytes holding each number once"
abbrev pub not_order : ℕ
not_order = 15

-- "16, a table is too short"
abbrev pub table_too_short : ℕ
table_too_short = 16

-- order 7: "Refusal 17 is for a tally not of 128 bytes or a sum too large for this reader"
abbrev pub tally_refused : ℕ
tally_refused = 17

-- "18, no such entry or condition"
abbrev pub no_such_row_or_predicate : ℕ
no_such_row_or_predicate = 18

-- "20, the lent output is too short"
abbrev pub output_too_short : ℕ
output_too_short = 20

-- order 4: "21, the text is over 16,384 bytes or isn't so spelled"
abbrev pub text_misspelled : ℕ
text_misspelled = 21

-- order 4: "22, the output is too short"
abbrev pub typed_output_too_short : ℕ
typed_output_too_short = 22

-- order 7: "24, reader over 15"
abbrev pub no_such_reader : ℕ
no_such_reader = 24
