-- "An operation's results travel to it packed in one eight-byte number."
use Rattle.std.specs.Prelude.{ℕ, ◌+◌, ◌*◌, ◌/◌, ◌%◌, ◌^◌, ◌<◌}
use Rattle.answers.specs.Answer.{Answer, Refused, Accepted}

-- document 01's number and values for each case: "Accepted is 0", "A refusal gives its number, with zeros for every other result"
abbrev pub number_of : Answer → ℕ
number_of (Refused e) = e
number_of (Accepted a b c) = 0

abbrev pub first_of : Answer → ℕ
first_of (Refused e) = 0
first_of (Accepted a b c) = a

abbrev pub second_of : Answer → ℕ
second_of (Refused e) = 0
second_of (Accepted a b c) = b

abbrev pub third_of : Answer → ℕ
third_of (Refused e) = 0
third_of (Accepted a b c) = c

-- bits 0 to 7 the number, 8 to 23 the first result, 24 to 39 the second, 40 to 63 the third
abbrev pub packed : Answer → ℕ
packed a = number_of a + 2 ^ 8 * first_of a + 2 ^ 24 * second_of a + 2 ^ 40 * third_of a

-- each result has room
abbrev pub FitsWord : Answer → Type 0
FitsWord a = (number_of a < 2 ^ 8) × (first_of a < 2 ^ 16) × (second_of a < 2 ^ 16) × (third_of a < 2 ^ 24)

-- the results in a word, by the same bits
abbrev pub number_in : (word : ℕ) → ℕ
number_in w = w % 2 ^ 8

abbrev pub first_in : (word : ℕ) → ℕ
first_in w = w / 2 ^ 8 % 2 ^ 16

abbrev pub third_in : (word : ℕ) → ℕ
third_in w = w / 2 ^ 40
