-- A list of numbers changed at the places of a set.
use Rattle.std.specs.Prelude.{ℕ, ◌≡◌, Bool, true, ◌&&◌, not, cond, List, length, get_or}
use Rattle.sets.specs.Set.{has}

-- where the test passes stands f of what stood there, elsewhere what stood there
pub record ChangedAt (test : ℕ → Bool) (f : ℕ → ℕ) (before after : List ℕ) : Type 0 where
  pub size : length after ≡ length before
  pub each : (d : ℕ) → get_or after d 0 ≡ cond (test d) (f (get_or before d 0)) (get_or before d 0)

-- a loop over the numbers of a set x, of which those of `left` are to come
pub record Changing (f : ℕ → ℕ) (x left : ℕ) (before now : List ℕ) : Type 0 where
  pub changed : ChangedAt (λ d. has x d && not (has left d)) f before now
  pub within : (d : ℕ) → has left d ≡ true → has x d ≡ true
