-- Document 01: "Numbers are unsigned, most significant byte first."
use Rattle.std.specs.Prelude.{ℕ, zero, suc, ◌+◌, ◌*◌, ◌/◌, ◌%◌, ◌^◌, ◌<◌, List, [], ◌∷◌, get_or}

-- the number of so many bytes at a place
unfoldable pub number_at : List ℕ → (at width : ℕ) → ℕ
number_at b at zero = 0
number_at b at (suc k) = number_at b at k * 256 + get_or b (at + k) 0

-- the bytes of a number at a width
unfoldable pub bytes_of : (width : ℕ) → ℕ → List ℕ
bytes_of zero x = []
bytes_of (suc k) x = x / 256 ^ k % 256 ∷ bytes_of k x

-- each element is a byte, as those of a lent slice are
abbrev pub Bytes : List ℕ → Type 0
Bytes b = (i : ℕ) → get_or b i 0 < 256
