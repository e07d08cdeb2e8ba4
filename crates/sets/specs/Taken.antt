-- A number taken from a set, as a loop over the numbers of a set takes one after the other.
use Rattle.std.specs.Prelude.{ℕ, ◌≡◌, Option, MatchOption}
use Rattle.sets.specs.Kept.{FirstIs, RestIs}

-- the lowest number of x is taken, and r is left; none is taken where x has none
abbrev pub Taken : (x : ℕ) → (taken : Option ℕ) → (r : ℕ) → Type 0
Taken x taken r = MatchOption taken ((x ≡ 0) × (r ≡ 0)) (λ t. FirstIs x t × RestIs x r)
