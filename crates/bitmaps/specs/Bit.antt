-- A table of bytes as bits: bit k is the bit of weight 2 ^ (k mod 8) in byte k div 8.
use Rattle.std.specs.Prelude.{ℕ, ◌/◌, ◌%◌, ◌^◌, Bool, List, get_or, eqb}

unfoldable pub bit : List ℕ → ℕ → Bool
bit table k = eqb (get_or table (k / 8) 0 / 2 ^ (k % 8) % 2) 1
