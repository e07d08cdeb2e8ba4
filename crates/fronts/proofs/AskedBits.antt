-- A byte that has c's bits where they are asked for folds to c, computed over all bytes.
use Prim.Native.Nat.{ℕ, ◌<◌}
use mathlib.Core.Path.{◌≡◌, refl, sym, ap, ◌∙◌}
use mathlib.Core.Bool.{Bool, true, false, ◌||◌, not, xor}
use mathlib.Core.Logic.{◌⊎◌, inl, inr}
use lib.Dec.{eqb}
use lib.Bits.{bit_and, bit_xor, xor_lt, xor_zero_l}
use Rattle.bools.specs.Bools.{which, or_cases, eqb_eq, clash, ltb_lt}
use Rattle.fields.proofs.Tables.{every_below, below_gives}
use Rattle.sets.specs.SetLaws.{has_xor, same_set}
use Rattle.sets.specs.Set.{has}
use Rattle.predicate.specs.Meaning.{fold}
use Rattle.fronts.specs.Sure.{is_letter, asked_bits}

pub asked_small : (c : ℕ) → asked_bits c < 256
asked_small c = go (which (is_letter c))
  where
    go : (is_letter c ≡ true) ⊎ (is_letter c ≡ false) → asked_bits c < 256
    go (inl e) = rw e (ltb_lt 0xDF 256 refl)
    go (inr e) = rw e (ltb_lt 0xFF 256 refl)

-- what two bytes may differ in, where they are told apart by all bits, and by all but bit 5
none_left : every_below (λ z. not (eqb (bit_and z 0xFF) 0) || eqb z 0) 256 ≡ true
none_left = refl

case_left : every_below (λ z. not (eqb (bit_and z 0xDF) 0) || (eqb z 0 || eqb z 32)) 256 ≡ true
case_left = refl

-- a letter's other case folds to it
cases_fold : every_below (λ c. not (is_letter c) || eqb (fold (bit_xor 32 c)) c) 256 ≡ true
cases_fold = refl

implied : (p q : Bool) → (not p || q) ≡ true → p ≡ true → q ≡ true
implied true q h e = h
implied false q h e = clash e refl

xor_back : (x c : ℕ) → x < 256 → c < 256 → bit_xor (bit_xor x c) c ≡ x
unfolding xor
xor_back x c h l = same_set 8 _ x (xor_lt 8 _ c (xor_lt 8 x c h l) l) h (λ d. has_xor (bit_xor x c) c d ∙ ap (λ (p : Bool). xor p (has c d)) (has_xor x c d) ∙ twice (has x d) (has c d))
  where
    twice : (p q : Bool) → xor (xor p q) q ≡ p
    twice true true = refl
    twice true false = refl
    twice false true = refl
    twice false false = refl

pub asked_folds : (x c : ℕ) → x < 256 → c < 256 → fold c ≡ c → bit_and (bit_xor x c) (asked_bits c) ≡ 0 → fold x ≡ c
asked_folds x c h l own none = go (which (is_letter c))
  where
    z : ℕ
    z = bit_xor x c

    z_small : z < 256
    z_small = xor_lt 8 x c h l

    same : z ≡ 0 → fold x ≡ c
    same e = ap fold (sym (xor_back x c h l) ∙ ap (λ (y : ℕ). bit_xor y c) e ∙ xor_zero_l c) ∙ own

    other : is_letter c ≡ true → z ≡ 32 → fold x ≡ c
    other letter e =
        ap fold (sym (xor_back x c h l) ∙ ap (λ (y : ℕ). bit_xor y c) e)
        ∙ eqb_eq _ _ (implied (is_letter c) (eqb (fold (bit_xor 32 c)) c) (below_gives (λ y. not (is_letter y) || eqb (fold (bit_xor 32 y)) y) 256 cases_fold c l) letter)

    zero? : (m : ℕ) → asked_bits c ≡ m → eqb (bit_and z m) 0 ≡ true
    zero? m e = ap (λ (y : ℕ). eqb y 0) (ap (bit_and z) (sym e) ∙ none)

    either : is_letter c ≡ true → (eqb z 0 ≡ true) ⊎ (eqb z 32 ≡ true) → fold x ≡ c
    either letter (inl e) = same (eqb_eq z 0 e)
    either letter (inr e) = other letter (eqb_eq z 32 e)

    go : (is_letter c ≡ true) ⊎ (is_letter c ≡ false) → fold x ≡ c
    go (inl letter) = either letter (or_cases (eqb z 0) (eqb z 32) (implied (eqb (bit_and z 0xDF) 0) (eqb z 0 || eqb z 32) (below_gives (λ y. not (eqb (bit_and y 0xDF) 0) || (eqb y 0 || eqb y 32)) 256 case_left z z_small) (zero? 0xDF (rw letter))))
    go (inr other) = same (eqb_eq z 0 (implied (eqb (bit_and z 0xFF) 0) (eqb z 0) (below_gives (λ y. not (eqb (bit_and y 0xFF) 0) || eqb y 0) 256 none_left z z_small) (zero? 0xFF (rw other))))
