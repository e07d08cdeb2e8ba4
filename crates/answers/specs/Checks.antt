-- "The first failing check in the stated order decides.": checks with their numbers, in the stated order.
use Rattle.std.specs.Prelude.{ℕ, Bool, true, false, List, [], ◌∷◌}

abbrev pub Checks : Type 0
Checks = List (ℕ × Bool)

abbrev pub or_refuse : {A : Type 0} → Bool → (refusal rest : A) → A
or_refuse true refusal rest = rest
or_refuse false refusal rest = refusal

-- what a call gives: its refusal by the first check that fails, else what it gives where none does
unfoldable pub checked : {A : Type 0} → Checks → (refuse : ℕ → A) → (accept : A) → A
checked [] refuse accept = accept
checked (c ∷ cs) refuse accept = or_refuse c.1 (refuse c.0) (checked cs refuse accept)

-- the number of the first that fails, 0 where none does
abbrev pub refusal_by : Checks → ℕ
refusal_by cs = checked cs (λ e. e) 0
