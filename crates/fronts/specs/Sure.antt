-- What a slot's first word, its length and seven bytes of text with the least significant byte first, tells of the text.
use Rattle.std.specs.Prelude.{ℕ, ◌+◌, ◌≤◌, ◌<◌, ◌≡◌, Bool, true, cond, List, length, get_or, eqb}
use Rattle.std.specs.Int.Bits.{bit_and, bit_xor}
use Rattle.fields.specs.Numbers.{Bytes}
use Rattle.words.specs.Words.{word_at}
use Rattle.predicate.specs.Meaning.{between, fold}
use Rattle.fronts.specs.declared.sure.Sure.{Sure}

-- the bytes of a slot's first word, and those of text among them
abbrev pub front_size : ℕ
front_size = 8

abbrev pub sure_size : ℕ
sure_size = 7

-- the letters a to z
abbrev pub is_letter : (c : ℕ) → Bool
is_letter c = between 97 122 c

-- the bits that are asked of a byte that should fold to c: of a letter all but bit 5
abbrev pub asked_bits : (c : ℕ) → ℕ
asked_bits c = cond (is_letter c) 0xDF 0xFF

-- r of an operand's n bytes have a place in the word: all that are there, up to seven
pub record SureSize (n r : ℕ) : Type 0 where
  pub holds : r ≤ sure_size
  pub inside : r ≤ n
  pub no_fewer : (i : ℕ) → i < n → i < sure_size → i < r

-- a word passes where it differs from the value in none of the bits that are asked for
abbrev pub sure_passes : List ℕ → (p : ℕ) → Sure → Bool
sure_passes b p k = eqb (bit_and (bit_xor (word_at b p front_size) k.value) k.asked) 0

-- where a slot's word passes, the bytes of its text fold as the operand's, as far as both the operand and the word go
abbrev pub SureFor : (o : List ℕ) → Sure → Type 0
SureFor o k =
    (b : List ℕ) (p : ℕ) → Bytes b → sure_passes b p k ≡ true → (i : ℕ) → i < length o → i < sure_size →
    fold (get_or b (p + 1 + i) 0) ≡ fold (get_or o i 0)
