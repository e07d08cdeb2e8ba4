-- A number of two, four or eight bytes as std reads and writes it, and a number read back from its bytes.
use Prim.Native.Nat.{ℕ, zero, suc, ◌+◌, ◌*◌, ◌/◌, ◌%◌, ◌^◌, ◌<◌}
use native.Mathlib.Nat.{add-zero, add-suc, add_assoc, mul_assoc, zero-add, div-eq_of_lt, div-add-mod', pow-suc, div-div-eq-div-mul, div-one}
use native.Mathlib.Omega.{arith}
use mathlib.Core.Path.{◌≡◌, refl, sym, ap, ap₂, ◌∙◌}
use mathlib.Core.List.{List, [], ◌∷◌, ◌++◌}
use lib.ListN.{get_or, length}
use Rattle.std.specs.Int.{w16, w32, w64, to_be_bytes}
use Rattle.fields.specs.Numbers.{number_at, bytes_of}

-- the first m bytes and the n behind them
pub number_joined : (b : List ℕ) (at m n : ℕ) → number_at b at (m + n) ≡ number_at b at m * 256 ^ n + number_at b (at + m) n
unfolding number_at
number_joined b at m zero = rw (add-zero m) (omega arith)
number_joined b at m (suc n) = rw (add-suc m n, number_joined b at m n, pow-suc 256 n, add_assoc at m n) (omega (arith, mul_assoc (number_at b at m) (256 ^ n) 256))

-- the number of two, four and eight bytes, each at its weight
pub number_two : (b : List ℕ) (p : ℕ) → number_at b p 2 ≡ get_or b p 0 * 256 + get_or b (p + 1) 0
unfolding number_at
number_two b p = rw (add-zero p) (omega arith)

pub number_four : (b : List ℕ) (p : ℕ) → number_at b p 4 ≡ get_or b p 0 * 16777216 + get_or b (p + 1) 0 * 65536 + get_or b (p + 2) 0 * 256 + get_or b (p + 3) 0
unfolding number_at
number_four b p = rw (add-zero p) (omega arith)

pub number_eight : (b : List ℕ) (p : ℕ)
    → number_at b p 8 ≡ get_or b p 0 * 256 ^ 7 + get_or b (p + 1) 0 * 256 ^ 6 + get_or b (p + 2) 0 * 256 ^ 5 + get_or b (p + 3) 0 * 256 ^ 4 + get_or b (p + 4) 0 * 256 ^ 3 + get_or b (p + 5) 0 * 65536 + get_or b (p + 6) 0 * 256 + get_or b (p + 7) 0
unfolding number_at
number_eight b p = rw (add-zero p) (omega arith)

pub length_bytes : (w x : ℕ) → length (bytes_of w x) ≡ w
unfolding bytes_of
length_bytes zero x = refl
length_bytes (suc w) x = ap suc (length_bytes w x)

byte_at : (x w k j : ℕ) → k + suc j ≡ w → get_or (bytes_of w x) k 0 ≡ x / 256 ^ j % 256
unfolding bytes_of
byte_at x zero k j e = absurd (omega arith)
byte_at x (suc w) zero j e = let q : w ≡ j = omega arith in rw q
byte_at x (suc w) (suc k) j e = byte_at x w k j (omega arith)

-- the first k bytes of a number are what is left of it without the others
front : (w x : ℕ) → x < 256 ^ w → (k j : ℕ) → k + j ≡ w → number_at (bytes_of w x) 0 k ≡ x / 256 ^ j
unfolding number_at
front w x h zero j e = let q : j ≡ w = omega arith in rw q (sym (div-eq_of_lt h))
front w x h (suc k) j e =
    let q : x / 256 ^ suc j ≡ x / 256 ^ j / 256 = ap (λ (p : ℕ). x / p) (pow-suc 256 j) ∙ sym (div-div-eq-div-mul x (256 ^ j) 256) in
    rw (front w x h k (suc j) (omega arith), zero-add k, byte_at x w k j (omega arith), q) (div-add-mod' (x / 256 ^ j) 256)

pub number_of_bytes : (w x : ℕ) → x < 256 ^ w → number_at (bytes_of w x) 0 w ≡ x
number_of_bytes w x h = front w x h w 0 (omega arith) ∙ div-one x

-- two bytes as the code forms them, and two, four and eight as std does
pub bytes_two : (x : ℕ) → x / 256 % 256 ∷ x % 256 ∷ [] ≡ bytes_of 2 x
unfolding bytes_of
bytes_two x = rw (div-one x)

pub be_two : (x : ℕ) → to_be_bytes w16 (x % 65536) ≡ bytes_of 2 x
be_two x = ap₂ (λ (a b : ℕ). a ∷ b ∷ []) (omega arith) (omega arith) ∙ bytes_two x

pub be_four : (x : ℕ) → to_be_bytes w32 (x % 4294967296) ≡ bytes_of 4 x
unfolding bytes_of
be_four x =
    rw (div-one x) (ap₂ (λ (f s : List ℕ). f ++ s)
    (ap₂ (λ (a b : ℕ). a ∷ b ∷ []) (omega arith) (omega arith))
    (ap₂ (λ (a b : ℕ). a ∷ b ∷ []) (omega arith) (omega arith)))

pub be_eight : (x : ℕ) → to_be_bytes w64 x ≡ bytes_of 8 x
unfolding bytes_of
be_eight x = rw (div-one x)
