-- The answer of a decoder: a value, or the number of the first check that fails.
use Rattle.std.specs.Prelude.{ℕ}

pub data Decoded (A : Type 0) : Type 0 where
  refused : ℕ → Decoded A
  accepted : A → Decoded A

-- a function of the accepted value, or what is decoded after it; a refusal stays
abbrev pub mapped : {A B : Type 0} → (A → B) → Decoded A → Decoded B
mapped f (refused e) = refused e
mapped f (accepted x) = accepted (f x)

abbrev pub and_then : {A B : Type 0} → Decoded A → (A → Decoded B) → Decoded B
and_then (refused e) f = refused e
and_then (accepted x) f = f x
