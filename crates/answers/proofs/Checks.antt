-- Checks in the stated order: all hold, or the first that fails decides.
use Prim.Native.Nat.{ℕ, ◌<◌}
use native.Mathlib.Omega.{arith}
use mathlib.Core.Path.{◌≡◌, refl}
use mathlib.Core.Bool.{true, false}
use mathlib.Core.List.{[], ◌∷◌, ◌++◌}
use Rattle.answers.specs.Checks.{Checks, checked, refusal_by}

abbrev pub AllHold : Checks → Type 0
AllHold [] = Unit {0}
AllHold (c ∷ cs) = (c.1 ≡ true) × AllHold cs

-- each has a number, which tells it from 0
abbrev pub Numbered : Checks → Type 0
Numbered [] = Unit {0}
Numbered (c ∷ cs) = (0 < c.0) × Numbered cs

pub none_fails : (cs : Checks) → Numbered cs → refusal_by cs ≡ 0 → AllHold cs
unfolding checked
none_fails [] k z = tt
none_fails ((e, true) ∷ cs) k z = (refl, none_fails cs k.1 z)
none_fails ((e, false) ∷ cs) k z = absurd (omega arith)

module _ {A : Type 0} (refuse : ℕ → A) where
  pub checked_holds : (cs : Checks) (accept : A) → AllHold cs → checked cs refuse accept ≡ accept
  unfolding checked
  checked_holds [] accept h = refl
  checked_holds (c ∷ cs) accept h = rw h.0 (checked_holds cs accept h.1)

  pub checked_fails : (cs : Checks) (accept : A) → (refusal_by cs ≡ 0 → ⊥) → checked cs refuse accept ≡ refuse (refusal_by cs)
  unfolding checked
  checked_fails [] accept ne = absurd (ne refl)
  checked_fails ((e, true) ∷ cs) accept ne = checked_fails cs accept ne
  checked_fails ((e, false) ∷ cs) accept ne = refl

  -- further checks are made where none before them fails
  pub checked_further : (cs ds : Checks) (accept : A) → checked (cs ++ ds) refuse accept ≡ checked cs refuse (checked ds refuse accept)
  unfolding checked
  checked_further [] ds accept = refl
  checked_further (c ∷ cs) ds accept = rw (checked_further cs ds accept)
