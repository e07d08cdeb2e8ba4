-- Cheap tests of a byte: all that the filters know of the fold (the laws are those of proofs/ByteTests).
use Rattle.std.specs.Prelude.{ℕ, Bool, ◌||◌, cond, eqb}
use Rattle.std.specs.Int.Bits.{bit_and, bit_or}
use Rattle.heads.specs.declared.byte_test.ByteTest.{ByteTest}

-- a byte passes where, with the bits of the mask set, it is the value
abbrev pub test_passes : ByteTest → (x : ℕ) → Bool
test_passes k x = eqb (bit_or x k.mask) k.value

-- every byte
abbrev pub any_byte : ByteTest
any_byte = record { mask = 255; value = 255 }

-- the loose letters a, e, i, n, o and u: they differ from their accented forms in so many bits that a mask for all of these passes seven letters or more
abbrev pub is_loose : (c : ℕ) → Bool
is_loose c = eqb c 97 || eqb c 101 || eqb c 105 || eqb c 110 || eqb c 111 || eqb c 117

-- the bits that a test of c leaves open: bit 5 where c has it, which tells the cases of a letter apart; more for 99 and 121, the two letters with accented
-- forms that are not loose
abbrev pub tight_bits : (c : ℕ) → ℕ
tight_bits c = cond (eqb c 99) 0xA4 (cond (eqb c 121) 0xA6 (bit_and c 32))

-- the same, and of a loose letter what its accented forms need
abbrev pub loose_bits : (c : ℕ) → ℕ
loose_bits c =
    cond (eqb c 97) 0xA7
    (cond (eqb c 101) 0xAF
    (cond (eqb c 105) 0xA7
    (cond (eqb c 110) 0xBF
    (cond (eqb c 111) 0xBF
    (cond (eqb c 117) 0xAF (tight_bits c))))))

-- of a loose letter its two cases, without its accented forms; of any other byte all that fold to it, and few others
abbrev pub tight_test : (c : ℕ) → ByteTest
tight_test c = record { mask = tight_bits c; value = bit_or c (tight_bits c) }

-- every byte that folds to c, and others
abbrev pub loose_test : (c : ℕ) → ByteTest
loose_test c = record { mask = loose_bits c; value = bit_or c (loose_bits c) }
