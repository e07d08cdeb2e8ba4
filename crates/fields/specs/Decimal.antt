-- A number as decimal digits.
use Rattle.std.specs.Prelude.{ℕ, zero, suc, ◌+◌, ◌/◌, ◌%◌, List, [], ◌∷◌, ◌++◌}

-- the digits of a number, none for 0: the last one stands behind those of a tenth of it. A number below `steps` has no more digits than that.
unfoldable pub digits : (steps : ℕ) → ℕ → List ℕ
digits zero x = []
digits (suc k) zero = []
digits (suc k) (suc x) = digits k (suc x / 10) ++ ((48 + suc x % 10) ∷ [])

abbrev pub digits_of : ℕ → List ℕ
digits_of x = digits (suc x) x

-- no zeros in front, and 0 is "0"
unfoldable pub decimal : ℕ → List ℕ
decimal zero = 48 ∷ []
decimal (suc x) = digits_of (suc x)
