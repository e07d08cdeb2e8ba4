-- The filter of equals and begins: a slot's head as one number, least significant byte first.
use Rattle.std.specs.Prelude.{ℕ, ◌+◌, ◌<◌, ◌≡◌, Bool, true, List, length, get_or, eqb}
use Rattle.std.specs.Int.Bits.{bit_and, bit_xor}
use Rattle.fields.specs.Numbers.{Bytes}
use Rattle.words.specs.Words.{word_at}
use Rattle.predicate.specs.Kinds.{equals_kind}
use Rattle.predicate.specs.Meaning.{fold}
use Rattle.heads.specs.declared.byte_test.ByteTest.{ByteTest}
use Rattle.heads.specs.declared.head.Head.{Head}
use Rattle.heads.specs.ByteTest.{test_passes}

-- the length and three bytes of text
abbrev pub head_size : ℕ
head_size = 4

-- a head passes where it differs from the value in none of the bits that are asked for
abbrev pub head_passes : List ℕ → (p : ℕ) → Head → Bool
head_passes b p k = eqb (bit_and (bit_xor (word_at b p head_size) k.value) k.asked) 0

-- a slot that starts as an operand asks: its text has the operand's bytes, folded, and for equals its length
pub record Starts (kind : ℕ) (o b : List ℕ) (p : ℕ) : Type 0 where
  pub bytes : Bytes b
  pub sized : kind ≡ equals_kind → get_or b p 0 ≡ length o
  pub alike : (i : ℕ) → i < length o → fold (get_or b (p + 1 + i) 0) ≡ fold (get_or o i 0)

-- byte j of every such slot passes
pub record TestFor (kind : ℕ) (o : List ℕ) (j : ℕ) (k : ByteTest) : Type 0 where
  pub mask_small : k.mask < 256
  pub value_small : k.value < 256
  pub passes : (b : List ℕ) (p : ℕ) → Starts kind o b p → test_passes k (get_or b (p + j) 0) ≡ true

-- every such slot passes
abbrev pub HeadFor : (kind : ℕ) → (o : List ℕ) → Head → Type 0
HeadFor kind o k = (b : List ℕ) (p : ℕ) → Starts kind o b p → head_passes b p k ≡ true

-- blanks pass, and no others
abbrev pub BlankHeadIs : Head → Type 0
BlankHeadIs k = (b : List ℕ) (p : ℕ) → Bytes b → head_passes b p k ≡ eqb (get_or b p 0) 0
