-- A test that one of the first n numbers passes.
use Rattle.std.specs.Prelude.{ℕ, zero, suc, Bool, false, ◌||◌}

unfoldable pub some_below : (test : ℕ → Bool) → (n : ℕ) → Bool
some_below test zero = false
some_below test (suc n) = some_below test n || test n
