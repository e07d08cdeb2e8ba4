-- A folded byte folds to itself. So order 5's "A search for "Andre" should find "André"" goes both ways, and for every text kind: text and operand
-- answer as they would without case and accent.
use Prim.Native.Nat.{ℕ, suc, ◌<◌}
use mathlib.Core.Path.{◌≡◌, refl, ap₂}
use mathlib.Core.Bool.{true}
use mathlib.Core.List.{List, [], ◌∷◌}
use lib.Dec.{eqb}
use borrow.Author.Tests.{eqb-true}
use Rattle.fields.specs.Numbers.{Bytes}
use Rattle.fields.proofs.Tables.{every_below, below_gives}
use Rattle.predicate.specs.Meaning.{fold, folded, text_test}
use Rattle.predicate.proofs.TextLaws.{folded_length}

all_again : every_below (λ x. eqb (fold (fold x)) (fold x)) 256 ≡ true
all_again = refl

pub fold_again : (x : ℕ) → x < 256 → fold (fold x) ≡ fold x
fold_again x h = eqb-true _ _ (below_gives (λ y. eqb (fold (fold y)) (fold y)) 256 all_again x h)

pub folded_again : (xs : List ℕ) → Bytes xs → folded (folded xs) ≡ folded xs
unfolding folded
folded_again [] h = refl
folded_again (x ∷ xs) h = ap₂ ◌∷◌ (fold_again x (h 0)) (folded_again xs (λ i. h (suc i)))

module _ (kind : ℕ) (o t : List ℕ) where
  pub operand_folded : Bytes o → text_test kind (folded o) t ≡ text_test kind o t
  unfolding text_test
  operand_folded h = rw (folded_again o h)

  pub text_folded : Bytes t → text_test kind o (folded t) ≡ text_test kind o t
  unfolding text_test
  text_folded h = rw (folded_again t h, folded_length t)
