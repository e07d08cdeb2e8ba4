-- What is written of an output, which keeps its other bytes.
use Rattle.std.specs.Prelude.{ℕ, ◌+◌, ◌≤◌, ◌≡◌, List, ◌++◌, length, take, drop}

-- "Longer tables keep their further bytes": the new bytes, then those of the old table beyond them
abbrev pub put_front : (new old : List ℕ) → List ℕ
put_front new old = new ++ drop (length new) old

-- the bytes of `new` from place `at` on, every other byte of `old` staying
abbrev pub put_at : (at : ℕ) (new old : List ℕ) → List ℕ
put_at at new old = take at old ++ new ++ drop (at + length new) old

-- an output with a text written from `at` on, and the place behind the text
pub record Wrote (at : ℕ) (text old : List ℕ) (next : ℕ) (new : List ℕ) : Type 0 where
  pub bytes : new ≡ put_at at text old
  pub place : next ≡ at + length text

-- the front of an output up to a place
pub record Front (bytes : List ℕ) (end : ℕ) (out : List ℕ) : Type 0 where
  pub begins : take end out ≡ bytes
  pub inside : end ≤ length out
