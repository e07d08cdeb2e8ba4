-- A set of numbers as one number: bit d tells whether d is in it.
use Rattle.std.specs.Prelude.{ℕ, ◌-◌, ◌/◌, ◌%◌, ◌^◌, Bool, eqb}
use Rattle.std.specs.Int.Bits.{bit_and, bit_or, bit_xor}

unfoldable pub has : ℕ → ℕ → Bool
has x d = eqb (x / 2 ^ d % 2) 1

-- one number alone; all below `n`
abbrev pub one_set : ℕ → ℕ
one_set d = 2 ^ d

abbrev pub below_set : ℕ → ℕ
below_set n = 2 ^ n - 1

-- `x` without the numbers of `m`
abbrev pub set_minus : ℕ → ℕ → ℕ
set_minus x m = bit_xor x (bit_and x m)

-- `x` with `d`
abbrev pub set_with : ℕ → ℕ → ℕ
set_with x d = bit_or x (one_set d)
