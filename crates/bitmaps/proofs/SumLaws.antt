-- Sums and joined lists: equal terms, a sum cut in two or into lines, terms that are zero.
use Prim.Native.Nat.{ℕ, zero, suc, ◌+◌, ◌-◌, ◌*◌, ◌≤◌, ◌<◌}
use Rattle.std.proofs.Common.{add-zero, add-suc, add_assoc, suc-mul, mul-le-mul_right, arith, sym, ap, ap₂, ◌∙◌, length-append, length-drop, drop_at, take_all}
use Rattle.std.specs.Prelude.{◌≡◌, Bool, length, take, drop}
use Rattle.std.proofs.Math.Path.{refl}
use Rattle.std.proofs.Math.Bool.{true, false}
use mathlib.Core.List.{List, [], ◌∷◌, ◌++◌, append_assoc, append-nil}
use Rattle.std.proofs.Math.ListN.{get_or, get_or-append}
use Rattle.std.proofs.lemmas.List.{get_or_at, take-append-le, drop-append-le}
use Rattle.std.proofs.Math.Dec.{ltb}
use borrow.Author.Tests.{ltb-true, ltb-false}
use Rattle.bitmaps.specs.Sums.{sum_of, joined, digit, count_of}

pub sum_same : (g h : ℕ → ℕ) (n : ℕ) → ((i : ℕ) → i < n → g i ≡ h i) → sum_of g n ≡ sum_of h n
unfolding sum_of
sum_same g h zero e = refl
sum_same g h (suc n) e = ap₂ ◌+◌ (sum_same g h n (λ i l. e i (omega arith))) (e n (omega arith))

pub sum_split : (g : ℕ → ℕ) (m n : ℕ) → sum_of g (m + n) ≡ sum_of g m + sum_of (λ i. g (m + i)) n
unfolding sum_of
sum_split g m zero = rw (add-zero m) (sym (add-zero (sum_of g m)))
sum_split g m (suc n) = rw (add-suc m n, sum_split g m n) (add_assoc (sum_of g m) (sum_of (λ i. g (m + i)) n) (g (m + n)))

pub sum_added : (g h : ℕ → ℕ) (n : ℕ) → sum_of g n + sum_of h n ≡ sum_of (λ i. g i + h i) n
unfolding sum_of
sum_added g h zero = refl
sum_added g h (suc n) = omega (arith, sum_added g h n)

pub sum_zero : (g : ℕ → ℕ) (n : ℕ) → ((i : ℕ) → i < n → g i ≡ 0) → sum_of g n ≡ 0
unfolding sum_of
sum_zero g zero z = refl
sum_zero g (suc n) z = omega (arith, sum_zero g n (λ i l. z i (omega arith)), z n (omega arith))

-- terms that are zero from n on
pub sum_below_lem : (g : ℕ → ℕ) (n m : ℕ) → n ≤ m → ((i : ℕ) → n ≤ i → i < m → g i ≡ 0) → sum_of g m ≡ sum_of g n
sum_below_lem g n m l z =
    let e : n + (m - n) ≡ m = omega arith in
    let r : sum_of (λ i. g (n + i)) (m - n) ≡ 0 = sum_zero (λ i. g (n + i)) (m - n) (λ i k. z (n + i) (omega arith) (omega arith)) in
    let s : sum_of g (n + (m - n)) ≡ sum_of g n + sum_of (λ i. g (n + i)) (m - n) = sum_split g n (m - n) in
    sym (ap (sum_of g) e) ∙ s ∙ rw r (add-zero (sum_of g n))

pub count_same : (f g : ℕ → Bool) (n : ℕ) → ((i : ℕ) → i < n → f i ≡ g i) → count_of f n ≡ count_of g n
count_same f g n e = sum_same (λ i. digit (f i)) (λ i. digit (g i)) n (λ i l. ap digit (e i l))

pub joined_same : (g h : ℕ → List ℕ) (n : ℕ) → ((i : ℕ) → i < n → g i ≡ h i) → joined g n ≡ joined h n
unfolding joined
joined_same g h zero e = refl
joined_same g h (suc n) e = ap₂ ◌++◌ (joined_same g h n (λ i l. e i (omega arith))) (e n (omega arith))

-- the first m lists, and the n behind them
pub joined_split : (g : ℕ → List ℕ) (m n : ℕ) → joined g (m + n) ≡ joined g m ++ joined (λ i. g (m + i)) n
unfolding joined
joined_split g m zero = rw (add-zero m) (sym (append-nil (joined g m)))
joined_split g m (suc n) = rw (add-suc m n, joined_split g m n) (append_assoc (joined g m) (joined (λ i. g (m + i)) n) (g (m + n)))

joined_none : (g : ℕ → List ℕ) (n : ℕ) → ((i : ℕ) → i < n → g i ≡ []) → joined g n ≡ []
unfolding joined
joined_none g zero e = refl
joined_none g (suc n) e = rw (joined_none g n (λ i l. e i (omega arith))) (e n (omega arith))

module _ (g : ℕ → List ℕ) (n m : ℕ) (l : n ≤ m) where
  from : joined g m ≡ joined g n ++ joined (λ i. g (n + i)) (m - n)
  from = let e : m ≡ n + (m - n) = omega arith in ap (joined g) e ∙ joined_split g n (m - n)

  -- lists that are empty from n on
  pub joined_below : ((i : ℕ) → n ≤ i → i < m → g i ≡ []) → joined g m ≡ joined g n
  joined_below e = from ∙ ap (λ (t : List ℕ). joined g n ++ t) (joined_none (λ i. g (n + i)) (m - n) (λ i k. e (n + i) (omega arith) (omega arith))) ∙ append-nil (joined g n)

  pub joined_grows : length (joined g n) ≤ length (joined g m)
  joined_grows = let e = ap length from ∙ length-append (joined g n) (joined (λ i. g (n + i)) (m - n)) in omega arith

-- the first list, and those behind it
pub joined_first : (g : ℕ → List ℕ) (n : ℕ) → joined g (suc n) ≡ g 0 ++ joined (λ i. g (suc i)) n
unfolding joined
joined_first g zero = sym (append-nil (g 0))
joined_first g (suc n) = rw (joined_first g n) (append_assoc (g 0) (joined (λ i. g (suc i)) n) (g (suc n)))

-- lists of one length
pub joined_length : (g : ℕ → List ℕ) (size n : ℕ) → ((i : ℕ) → i < n → length (g i) ≡ size) → length (joined g n) ≡ n * size
unfolding joined
joined_length g size zero e = omega arith
joined_length g size (suc n) e =
    omega (arith, length-append (joined g n) (g n), joined_length g size n (λ i l. e i (omega arith)), e n (omega arith), suc-mul n size)

pub joined_line : (g : ℕ → List ℕ) (size n : ℕ) → ((i : ℕ) → length (g i) ≡ size) → (c : ℕ) → c < n → take size (drop (c * size) (joined g n)) ≡ g c
unfolding joined
joined_line g size zero e c l = absurd (omega arith)
joined_line g size (suc n) e c l = go (ltb c n) refl (joined_line g size n e c)
  where
    long : length (joined g n) ≡ n * size
    long = joined_length g size n (λ i l. e i)

    go : (b : Bool) → ltb c n ≡ b → (c < n → take size (drop (c * size) (joined g n)) ≡ g c) → take size (drop (c * size) (joined g n ++ g n)) ≡ g c
    go true y less =
        let m : c < n = ltb-true c n y in
        let fits : c * size + size ≤ n * size = omega (arith, mul-le-mul_right size m) in
        ap (take size) (drop-append-le (c * size) (joined g n) (g n) (omega (arith, long)))
        ∙ take-append-le size (drop (c * size) (joined g n)) (g n) (omega (arith, long, length-drop (c * size) (joined g n)))
        ∙ less m
    go false y less =
        let q : c ≡ n = omega (arith, ltb-false c n y) in
        rw q (ap (take size) (drop_at (joined g n) (g n) (n * size) long) ∙ take_all size (g n) (omega (arith, e n)))

module _ (h : ℕ → ℕ) where
  -- lists of one byte
  pub listed_length : (n : ℕ) → length (joined (λ i. h i ∷ []) n) ≡ n
  listed_length n = omega (arith, joined_length (λ i. h i ∷ []) 1 n (λ i l. refl))

  pub listed_at : (n i : ℕ) → i < n → get_or (joined (λ i. h i ∷ []) n) i 0 ≡ h i
  unfolding joined
  listed_at zero i l = absurd (omega arith)
  listed_at (suc n) i l = go (ltb i n) refl (listed_at n i)
    where
      go : (b : Bool) → ltb i n ≡ b → (i < n → get_or (joined (λ i. h i ∷ []) n) i 0 ≡ h i)
          → get_or (joined (λ i. h i ∷ []) n ++ (h n ∷ [])) i 0 ≡ h i
      go true e less =
          let m : i < n = ltb-true i n e in
          get_or-append (joined (λ i. h i ∷ []) n) (h n ∷ []) 0 i (omega (arith, listed_length n)) ∙ less m
      go false e less =
          let q : i ≡ n = omega (arith, ltb-false i n e) in
          rw q (get_or_at (joined (λ i. h i ∷ []) n) (h n) [] 0 n (listed_length n))
