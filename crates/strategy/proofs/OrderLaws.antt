-- An accepted order holds exactly the numbers below n, each once, and the check by a set accepts just these.
use Rattle.std.specs.Prelude.{ℕ, zero, suc, ◌+◌, ◌≤◌, ◌<◌, ◌≡◌, refl, Bool, true, false, ◌&&◌, cond, ◌↔◌, ◌⊎◌, List, [], ◌∷◌, eqb, ltb, length}
use Rattle.std.proofs.Common.{arith, sym, ap, ◌∙◌, subst, inl, inr}
use Rattle.bools.specs.Bools.{which, both, and_parts, eqb_self, eqb_eq, eqb_ne, same?, ltb_yes, ltb_no, ltb_lt, ltb_le}
use Rattle.strategy.specs.Assignment.{Among, Once}
use Rattle.strategy.proofs.AssignmentLaws.{among?}
use Rattle.strategy.specs.Order.{occurrences, all_below, is_order, Order}

pub all_below_gives : (n : ℕ) (P : ℕ → Bool) → all_below n P ≡ true → (c : ℕ) → c < n → P c ≡ true
unfolding all_below
all_below_gives zero P h c l = absurd (omega arith)
all_below_gives (suc n) P h c l =
    let hs = and_parts (P n) (all_below n P) h in
    let go : (c ≡ n) ⊎ (c ≡ n → ⊥) → P c ≡ true = elim [ inl e ↦ rw e hs.0 | inr k ↦ all_below_gives n P hs.1 c (omega arith) ] in
    go (same? c n)

pub all_below_of : (n : ℕ) (P : ℕ → Bool) → ((c : ℕ) → c < n → P c ≡ true) → all_below n P ≡ true
unfolding all_below
all_below_of zero P h = refl
all_below_of (suc n) P h = both (h n (omega arith)) (all_below_of n P (λ c l. h c (omega arith)))

-- counting: the occurrences of the numbers below `n` add up to the elements below `n`
sum_below : ℕ → (ℕ → ℕ) → ℕ
sum_below zero g = 0
sum_below (suc n) g = g n + sum_below n g

one : Bool → ℕ
one b = cond b 1 0

count_below : ℕ → List ℕ → ℕ
count_below n [] = 0
count_below n (d ∷ ds) = one (ltb d n) + count_below n ds

sum_zero : (n : ℕ) → sum_below n (λ c. 0) ≡ 0
unfolding sum_below
sum_zero zero = refl
sum_zero (suc n) = omega (arith, sum_zero n)

sum_add : (n : ℕ) (g h : ℕ → ℕ) → sum_below n (λ c. g c + h c) ≡ sum_below n g + sum_below n h
unfolding sum_below
sum_add zero g h = refl
sum_add (suc n) g h = omega (arith, sum_add n g h)

sum_ones : (n : ℕ) (g : ℕ → ℕ) → ((c : ℕ) → c < n → g c ≡ 1) → sum_below n g ≡ n
unfolding sum_below
sum_ones zero g h = refl
sum_ones (suc n) g h = omega (arith, h n (omega arith), sum_ones n g (λ c l. h c (omega arith)))

sum_one : (n d : ℕ) → sum_below n (λ c. one (eqb c d)) ≡ one (ltb d n)
unfolding sum_below one
sum_one zero d = rw (ltb_no d 0 (omega arith))
sum_one (suc n) d = go (same? n d) (which (ltb d n)) (sum_one n d)
  where
    go : (n ≡ d) ⊎ (n ≡ d → ⊥) → (ltb d n ≡ true) ⊎ (ltb d n ≡ false) → sum_below n (λ c. one (eqb c d)) ≡ one (ltb d n)
        → one (eqb n d) + sum_below n (λ c. one (eqb c d)) ≡ one (ltb d (suc n))
    go (inl e) w ih = rw (ih, e, eqb_self d, ltb_no d d (omega arith), ltb_yes d (suc d) (omega arith))
    go (inr k) (inl w) ih = let l : d < n = ltb_lt d n w in rw (ih, w, eqb_ne n d k, ltb_yes d (suc n) (omega arith))
    go (inr k) (inr w) ih = let l : n ≤ d = ltb_le d n w in rw (ih, w, eqb_ne n d k, ltb_no d (suc n) (omega arith))

sum_occurrences : (n : ℕ) (l : List ℕ) → sum_below n (λ c. occurrences c l) ≡ count_below n l
unfolding occurrences count_below one
sum_occurrences n [] = sum_zero n
sum_occurrences n (d ∷ ds) = sum_add n (λ c. one (eqb c d)) (λ c. occurrences c ds) ∙ omega (arith, sum_one n d, sum_occurrences n ds)

one_le : (b : Bool) → one b ≤ 1
unfolding one
one_le true = omega arith
one_le false = omega arith

count_le : (n : ℕ) (l : List ℕ) → count_below n l ≤ length l
unfolding count_below
count_le n [] = omega arith
count_le n (d ∷ ds) = omega (arith, one_le (ltb d n), count_le n ds)

count_inside : (n : ℕ) (l : List ℕ) → count_below n l ≡ length l → (d : ℕ) → Among d l → d < n
unfolding count_below one
count_inside n [] e d m = elim m [ ]
count_inside n (x ∷ l) e d m = go (which (ltb x n)) (λ k. count_inside n l k d) m
  where
    tail : count_below n l ≡ length l
    tail = omega (arith, one_le (ltb x n), count_le n l)

    go : (ltb x n ≡ true) ⊎ (ltb x n ≡ false) → (count_below n l ≡ length l → Among d l → d < n) → (d ≡ x) ⊎ Among d l → d < n
    go (inl w) ih (inl y) = rw y (ltb_lt x n w)
    go (inl w) ih (inr y) = ih tail y
    go (inr w) ih y = absurd (omega (arith, ap one w, count_le n l))

count_of : (n : ℕ) (l : List ℕ) → ((d : ℕ) → Among d l → d < n) → count_below n l ≡ length l
unfolding count_below one
count_of n [] h = refl
count_of n (x ∷ l) h = omega (arith, ap one (ltb_yes x n (h x (inl refl))), count_of n l (λ d m. h d (inr m)))

pub occurs_none : (c : ℕ) (l : List ℕ) → (Among c l → ⊥) → occurrences c l ≡ 0
unfolding occurrences
occurs_none c [] n = refl
occurs_none c (d ∷ ds) n = rw (eqb_ne c d (λ e. n (inl e))) (omega (arith, occurs_none c ds (λ m. n (inr m))))

pub occurs_some : (c : ℕ) (l : List ℕ) → Among c l → 1 ≤ occurrences c l
unfolding occurrences
occurs_some c [] x' = elim x' [ ]
occurs_some c (d ∷ ds) (inl e) = rw (e, eqb_self d) (omega arith)
occurs_some c (d ∷ ds) (inr m) = omega (arith, occurs_some c ds m)

pub occurs_once : (c : ℕ) (l : List ℕ) → Once l → Among c l → occurrences c l ≡ 1
unfolding occurrences
occurs_once c [] o x'' = elim x'' [ ]
occurs_once c (d ∷ ds) o (inl e) =
    let n : occurrences c ds ≡ 0 = occurs_none c ds (λ m. o.0 (subst (λ x. Among x ds) e m)) in
    rw (e, eqb_self d) (omega (arith, n))
occurs_once c (d ∷ ds) o (inr m) = rw (eqb_ne c d (λ e. o.0 (subst (λ x. Among x ds) e m))) (omega (arith, occurs_once c ds o.1 m))

pub once_of : (l : List ℕ) → ((c : ℕ) → Among c l → occurrences c l ≤ 1) → Once l
unfolding occurrences one
once_of [] h = tt
once_of (c ∷ cs) h = (λ m. again m, once_of cs (λ d m. omega (arith, h d (inr m))))
  where
    again : Among c cs → ⊥
    again m = omega (arith, ap one (eqb_self c), h c (inl refl), occurs_some c cs m)

-- n bytes holding each number once: no repeats, exactly the numbers below n
pub order_law : (n : ℕ) (order : List ℕ) → (is_order n order ≡ true) ↔ Order n order
unfolding is_order
order_law n order = (to, from)
  where
    to : (eqb (length order) n && all_below n (λ c. eqb (occurrences c order) 1)) ≡ true → Order n order
    to h = record { once = once_of order (λ c m. le c (inside c m)); inside = inside; every = every }
      where
        hs : (eqb (length order) n ≡ true) × (all_below n (λ c. eqb (occurrences c order) 1) ≡ true)
        hs = and_parts (eqb (length order) n) (all_below n (λ c. eqb (occurrences c order) 1)) h

        each_one : (c : ℕ) → c < n → occurrences c order ≡ 1
        each_one c l = eqb_eq (occurrences c order) 1 (all_below_gives n (λ c. eqb (occurrences c order) 1) hs.1 c l)

        inside : (d : ℕ) → Among d order → d < n
        inside = count_inside n order (sym (sum_occurrences n order) ∙ sum_ones n (λ c. occurrences c order) each_one ∙ sym (eqb_eq (length order) n hs.0))

        le : (c : ℕ) → c < n → occurrences c order ≤ 1
        le c l = omega (arith, each_one c l)

        every : (d : ℕ) → d < n → Among d order
        every d l = go (among? d order)
          where
            go : Among d order ⊎ (Among d order → ⊥) → Among d order
            go (inl m) = m
            go (inr k) = absurd (omega (arith, each_one d l, occurs_none d order k))

    from : Order n order → (eqb (length order) n && all_below n (λ c. eqb (occurrences c order) 1)) ≡ true
    from O = both (ap (λ (k : ℕ). eqb k n) size ∙ eqb_self n) (all_below_of n (λ c. eqb (occurrences c order) 1) (λ c l. rw (each_one c l)))
      where
        each_one : (c : ℕ) → c < n → occurrences c order ≡ 1
        each_one c l = occurs_once c order O.once (O.every c l)

        size : length order ≡ n
        size = sym (count_of n order O.inside) ∙ sym (sum_occurrences n order) ∙ sum_ones n (λ c. occurrences c order) each_one

-- a test of the order, made with the number at another width
pub order_is : (k n : ℕ) (order : List ℕ) (x v : Bool) → k ≡ n → x ≡ is_order k order → x ≡ v → is_order n order ≡ v
order_is k n order x v e f g = ap (λ (j : ℕ). is_order j order) (sym e) ∙ sym f ∙ g
