-- The ones of tables put together.
use Rattle.std.specs.Prelude.{ℕ, zero, suc, ◌+◌, ◌≡◌, refl, List, [], ◌∷◌, ◌++◌}
use Rattle.std.proofs.Common.{arith, ap, ◌∙◌}
use Rattle.bitmaps.specs.Sums.{sum_of, joined}
use Rattle.bitmaps.specs.Bitmap.{ones_in}

pub ones_append : (s t : List ℕ) → ones_in (s ++ t) ≡ ones_in s + ones_in t
unfolding ones_in
ones_append [] t = omega arith
ones_append (x ∷ s) t = omega (arith, ones_append s t)

pub ones_joined : (g : ℕ → List ℕ) (n : ℕ) → ones_in (joined g n) ≡ sum_of (λ c. ones_in (g c)) n
unfolding ones_in joined sum_of
ones_joined g zero = refl
ones_joined g (suc n) = ones_append (joined g n) (g n) ∙ ap (λ (s : ℕ). s + ones_in (g n)) (ones_joined g n)
