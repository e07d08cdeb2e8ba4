-- A word joined of two, and one of four or of eight bytes as the sum of its bytes at their weights.
use Rattle.std.proofs.Common.{ℕ, zero, suc, ◌+◌, ◌*◌, ◌^◌, ◌≡◌, List, get_or, zero-add, add-zero, suc-add, mul_assoc, arith}
use native.Mathlib.Nat.{pow-succ'}
use Rattle.words.specs.Words.{word_at}

-- the first m bytes and the n behind them
pub word_joined : (b : List ℕ) (at m n : ℕ) → word_at b at (m + n) ≡ word_at b at m + 256 ^ m * word_at b (at + m) n
unfolding word_at
word_joined b at zero n = rw (zero-add n, add-zero at) (omega arith)
word_joined b at (suc m) n =
    let z : at + suc m ≡ at + 1 + m = omega arith in
    rw (suc-add m n, z, word_joined b (at + 1) m n, pow-succ' 256 m) (omega (arith, mul_assoc 256 (256 ^ m) (word_at b (at + 1 + m) n)))

pub word_four : (b : List ℕ) (p : ℕ) → word_at b p 4 ≡ get_or b p 0 + 256 * get_or b (p + 1) 0 + 65536 * get_or b (p + 2) 0 + 16777216 * get_or b (p + 3) 0
unfolding word_at
word_four b p =
    let z2 : p + 1 + 1 ≡ p + 2 = omega arith in
    let z3 : p + 2 + 1 ≡ p + 3 = omega arith in
    rw (z2, z3) (omega arith)

-- the four bytes at p, and the four behind them
pub word_eight : (b : List ℕ) (p : ℕ)
    → word_at b p 8 ≡ get_or b p 0 + 256 * get_or b (p + 1) 0 + 65536 * get_or b (p + 2) 0 + 16777216 * get_or b (p + 3) 0 + 2 ^ 32 * (get_or b (p + 4) 0 + 256 * get_or b (p + 5) 0 + 65536 * get_or b (p + 6) 0 + 16777216 * get_or b (p + 7) 0)
unfolding word_at
word_eight b p =
    let z2 : p + 1 + 1 ≡ p + 2 = omega arith in
    let z3 : p + 2 + 1 ≡ p + 3 = omega arith in
    let z4 : p + 3 + 1 ≡ p + 4 = omega arith in
    let z5 : p + 4 + 1 ≡ p + 5 = omega arith in
    let z6 : p + 5 + 1 ≡ p + 6 = omega arith in
    let z7 : p + 6 + 1 ≡ p + 7 = omega arith in
    rw (z2, z3, z4, z5, z6, z7) (omega arith)
