-- What is computed once and carried to each: the rule of a constant table, over all of its entries; a test, over all numbers below one.
use Prim.Native.Nat.{ℕ, zero, suc, ◌+◌, ◌<◌}
use native.Mathlib.Nat.{add-zero, zero-add, add-suc, suc-add, le_of_suc-le-suc, not-suc-le-zero}
use native.Mathlib.Omega.{arith}
use mathlib.Core.Path.{◌≡◌, ◌∙◌, sym, ap, subst}
use mathlib.Core.Bool.{Bool, true, ◌&&◌}
use mathlib.Core.Logic.{◌⊎◌, inl, inr}
use mathlib.Core.List.{List, [], ◌∷◌}
use lib.ListN.{length, get_or}
use lib.Dec.{eqb}
use borrow.Author.Tests.{eqb-true}
use Rattle.bools.specs.Bools.{and_left, and_right, same?}

module _ (rule : ℕ → ℕ) where
  -- each entry is what the rule gives at its place, the places counted from i
  abbrev pub every : (i : ℕ) → List ℕ → Bool
  every i [] = true
  every i (x ∷ xs) = eqb x (rule i) && every (suc i) xs

  every_from : (xs : List ℕ) (i : ℕ) → every i xs ≡ true → (k : ℕ) → k < length xs → eqb (get_or xs k 0) (rule (i + k)) ≡ true
  every_from [] i t k h = absurd (not-suc-le-zero h)
  every_from (x ∷ xs) i t zero h = rw (add-zero i) (and_left (eqb x (rule i)) (every (suc i) xs) t)
  every_from (x ∷ xs) i t (suc k) h =
      subst (λ (m : ℕ). eqb (get_or xs k 0) (rule m) ≡ true) (suc-add i k ∙ sym (add-suc i k))
      (every_from xs (suc i) (and_right (eqb x (rule i)) (every (suc i) xs) t) k (le_of_suc-le-suc h))

  pub table_at : (xs : List ℕ) (size : ℕ) → length xs ≡ size → every 0 xs ≡ true → (k : ℕ) → k < size → get_or xs k 0 ≡ rule k
  table_at xs size e t k h = eqb-true _ _ (rw zero-add at (every_from xs 0 t k (rw e h)))

module _ (test : ℕ → Bool) where
  abbrev pub every_below : ℕ → Bool
  every_below zero = true
  every_below (suc n) = test n && every_below n

  pub below_gives : (n : ℕ) → every_below n ≡ true → (x : ℕ) → x < n → test x ≡ true
  below_gives zero e x h = absurd (not-suc-le-zero h)
  below_gives (suc n) e x h =
      let go : (x ≡ n) ⊎ (x ≡ n → ⊥) → test x ≡ true
      = elim [ inl q ↦ ap test q ∙ and_left (test n) (every_below n) e | inr ne ↦ below_gives n (and_right (test n) (every_below n) e) x (omega arith) ] in
      go (same? x n)
