-- The laws of a byte's tests, computed over all bytes; flags of 0 and 1 put together.
use Prim.Native.Nat.{ℕ, ◌<◌}
use mathlib.Core.Path.{◌≡◌, refl, sym, ap, ap₂, ◌∙◌}
use mathlib.Core.Bool.{Bool, true, false, ◌&&◌, ◌||◌, not, cond}
use mathlib.Core.Logic.{◌⊎◌, inl, inr}
use lib.Dec.{eqb, leb, ltb}
use lib.Bits.{bit_and, bit_or}
use Rattle.bools.specs.Bools.{and_parts, or_cases, ltb_lt}
use Rattle.fields.proofs.Tables.{every_below, below_gives}
use Rattle.predicate.specs.Meaning.{fold}
use Rattle.heads.specs.declared.byte_test.ByteTest.{ByteTest}
use Rattle.heads.specs.ByteTest.{test_passes, loose_bits, loose_test, is_loose, tight_test}

-- a test of bytes that every byte that folds to c passes
pub record MayFold (c : ℕ) (k : ByteTest) : Type 0 where
  pub mask_small : k.mask < 256
  pub value_small : k.value < 256
  pub passes : (x : ℕ) → x < 256 → fold x ≡ c → test_passes k x ≡ true

-- each byte passes the loose test of its fold
loose_tested : every_below (λ x. test_passes (loose_test (fold x)) x) 256 ≡ true
loose_tested = refl

masks_small : every_below (λ c. ltb (loose_bits c) 256) 256 ≡ true
masks_small = refl

values_small : every_below (λ c. ltb (bit_or c (loose_bits c)) 256) 256 ≡ true
values_small = refl

pub may_fold : (c : ℕ) → c < 256 → MayFold c (loose_test c)
may_fold c small = record {
  mask_small = ltb_lt _ _ (below_gives (λ y. ltb (loose_bits y) 256) 256 masks_small c small);
  value_small = ltb_lt _ _ (below_gives (λ y. ltb (bit_or y (loose_bits y)) 256) 256 values_small c small);
  passes = λ x h f. ap (λ (k : ℕ). test_passes (loose_test k) x) (sym f) ∙ below_gives (λ y. test_passes (loose_test (fold y)) y) 256 loose_tested x h;
}

-- a byte passes the tight test of its fold, or that is a loose letter, and the byte one of those from 128 on
tight_tested : every_below (λ x. test_passes (tight_test (fold x)) x || (is_loose (fold x) && leb 128 x)) 256 ≡ true
tight_tested = refl

pub tight_or_non_ascii : (x c : ℕ) → x < 256 → fold x ≡ c → (test_passes (tight_test c) x ≡ true) ⊎ ((is_loose c ≡ true) × (leb 128 x ≡ true))
tight_or_non_ascii x c h f = go (or_cases (test_passes (tight_test c) x) (is_loose c && leb 128 x) (rw f at (below_gives (λ y. test_passes (tight_test (fold y)) y || (is_loose (fold y) && leb 128 y)) 256 tight_tested x h)))
  where
    go : (test_passes (tight_test c) x ≡ true) ⊎ ((is_loose c && leb 128 x) ≡ true) → (test_passes (tight_test c) x ≡ true) ⊎ ((is_loose c ≡ true) × (leb 128 x ≡ true))
    go (inl e) = inl e
    go (inr e) = inr (and_parts (is_loose c) (leb 128 x) e)

-- the mask and value 255 pass every byte
all_pass : every_below (λ x. eqb (bit_or x 255) 255) 256 ≡ true
all_pass = refl

pub any_passes : (x : ℕ) → x < 256 → eqb (bit_or x 255) 255 ≡ true
any_passes = below_gives (λ x. eqb (bit_or x 255) 255) 256 all_pass

-- an arm of a match: what f gives at its key
pub at_key : {A : Type 0} (f : ℕ → A) (c k : ℕ) → c ≡ k → f k ≡ f c
at_key f c k e = sym (ap f e)

flag_or : (s t : Bool) → bit_or (cond s 1 0) (cond t 1 0) ≡ cond (s || t) 1 0
flag_or true true = refl
flag_or true false = refl
flag_or false true = refl
flag_or false false = refl

flag_and : (s t : Bool) → bit_and (cond s 1 0) (cond t 1 0) ≡ cond (s && t) 1 0
flag_and true true = refl
flag_and true false = refl
flag_and false true = refl
flag_and false false = refl

module _ {x y : ℕ} (s t : Bool) (x-is : x ≡ cond s 1 0) (y-is : y ≡ cond t 1 0) where
  pub either_flag : bit_or x y ≡ cond (s || t) 1 0
  either_flag = ap₂ bit_or x-is y-is ∙ flag_or s t

  pub both_flags : bit_and x y ≡ cond (s && t) 1 0
  both_flags = ap₂ bit_and x-is y-is ∙ flag_and s t

pub flag_set : {x : ℕ} (s : Bool) → x ≡ cond s 1 0 → not (eqb x 0) ≡ s
flag_set true e = ap (λ (n : ℕ). not (eqb n 0)) e
flag_set false e = ap (λ (n : ℕ). not (eqb n 0)) e
