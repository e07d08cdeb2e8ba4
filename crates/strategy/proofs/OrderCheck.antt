-- The check of an order by a set of seen numbers is the check of its definition; its steps as a loop takes them.
use Rattle.std.specs.Prelude.{ℕ, ◌+◌, ◌≤◌, ◌<◌, ◌≡◌, refl, Bool, true, false, ◌&&◌, not, ◌⊎◌, List, [], ◌∷◌, eqb, ltb, length, get_or, drop}
use Rattle.std.proofs.Common.{add-one, sym, ap, ◌∙◌, subst, inl, inr, drop_of_length-le, drop-cons}
use Rattle.std.proofs.Math.Bool.{and-false}
use Rattle.bools.specs.Bools.{clash, not_true, not_of_true, iff_eq, both, and_parts, or_cases, or_left, or_right, eqb_self, eqb_eq, ltb_yes, ltb_no, ltb_lt}
use Rattle.strategy.specs.Assignment.{Among, Once}
use Rattle.strategy.specs.Order.{all_below, is_order, add, checks}
use Rattle.strategy.proofs.OrderLaws.{all_below_gives, all_below_of, order_law}

-- what the check of the rest asks
record Left (n : ℕ) (cs : List ℕ) (set : ℕ → Bool) : Type 0 where
  once : Once cs
  inside : (d : ℕ) → Among d cs → d < n
  new : (d : ℕ) → Among d cs → set d ≡ false
  every : (d : ℕ) → d < n → (set d ≡ true) ⊎ Among d cs

left_of : (n : ℕ) (cs : List ℕ) (set : ℕ → Bool) → checks n cs set ≡ true → Left n cs set
unfolding checks
left_of n [] set h = record { once = tt; inside = λ d m. absurd m; new = λ d m. absurd m; every = λ d l. inl (all_below_gives n set h d l) }
left_of n (c ∷ cs) set h =
    let hs = and_parts (ltb c n) (not (set c) && checks n cs (add c set)) h in
    let ks = and_parts (not (set c)) (checks n cs (add c set)) hs.1 in
    let r = left_of n cs (add c set) ks.1 in
    record {
      once = (λ m. clash (or_right (set c) (eqb_self c)) (r.new c m), r.once);
      inside = λ d. elim [ inl e ↦ rw e (ltb_lt c n hs.0) | inr m ↦ r.inside d m ];
      new = λ d. elim [ inl e ↦ rw e (not_of_true (set c) ks.0) | inr m ↦ not_true (set d) (λ y. clash (or_left (eqb d c) y) (r.new d m)) ];
      every = λ d l. every d (r.every d l);
    }
  where
    every : (d : ℕ) → (add c set d ≡ true) ⊎ Among d cs → (set d ≡ true) ⊎ Among d (c ∷ cs)
    every d (inr m) = inr (inr m)
    every d (inl y) = go (or_cases (set d) (eqb d c) y)
      where
        go : (set d ≡ true) ⊎ (eqb d c ≡ true) → (set d ≡ true) ⊎ Among d (c ∷ cs)
        go (inl e) = inl e
        go (inr e) = inr (inl (eqb_eq d c e))

of_left : (n : ℕ) (cs : List ℕ) (set : ℕ → Bool) → Left n cs set → checks n cs set ≡ true
unfolding checks
of_left n [] set L = all_below_of n set (λ d l. go d (L.every d l))
  where
    go : (d : ℕ) → (set d ≡ true) ⊎ ⊥ → set d ≡ true
    go d (inl e) = e
    go d (inr z) = absurd z
of_left n (c ∷ cs) set L =
    let new : set c ≡ false = L.new c (inl refl) in
    both (ltb_yes c n (L.inside c (inl refl))) (both (ap not new) (of_left n cs (add c set) (record {
      once = L.once.1;
      inside = λ d m. L.inside d (inr m);
      new = λ d m. not_true (add c set d) (λ y. old d m (or_cases (set d) (eqb d c) y));
      every = λ d l. every d (L.every d l);
    })))
  where
    old : (d : ℕ) → Among d cs → (set d ≡ true) ⊎ (eqb d c ≡ true) → ⊥
    old d m (inl y) = clash y (L.new d (inr m))
    old d m (inr y) = L.once.0 (subst (λ x. Among x cs) (eqb_eq d c y) m)

    every : (d : ℕ) → (set d ≡ true) ⊎ Among d (c ∷ cs) → (add c set d ≡ true) ⊎ Among d cs
    every d (inl y) = inl (or_left (eqb d c) y)
    every d (inr (inl y)) = inl (or_right (set d) (rw y (eqb_self c)))
    every d (inr (inr y)) = inr y

-- THE CHECK BY A SET, begun with the empty set, accepts just the orders
pub order_checks : (n : ℕ) (order : List ℕ) → is_order n order ≡ checks n order (λ d. false)
order_checks n order =
    iff_eq (is_order n order) (checks n order (λ d. false))
    (λ h. (let O = (order_law n order).0 h in of_left n order (λ d. false) (record { once = O.once; inside = O.inside; new = λ d m. refl; every = λ d l. inr (O.every d l) })))
    (λ h. (let L = left_of n order (λ d. false) h in (order_law n order).1 (record { once = L.once; inside = L.inside; every = λ d l. some d (L.every d l) })))
  where
    some : (d : ℕ) → (false ≡ true) ⊎ Among d order → Among d order
    some d (inl y) = clash y refl
    some d (inr m) = m

-- the steps of a loop that has checked the first `i` numbers; its invariant is `is_order n order ≡ checks n (drop i order) set`
module _ (n : ℕ) (order : List ℕ) (i : ℕ) (set : ℕ → Bool) where
  module _ (h : i < length order) where
    at : drop i order ≡ get_or order i 0 ∷ drop (i + 1) order
    at = drop-cons order i 0 h ∙ ap (λ (k : ℕ). get_or order i 0 ∷ drop k order) (sym (add-one i))

    -- refused: a number that is not below `n`
    pub check_high : n ≤ get_or order i 0 → checks n (drop i order) set ≡ false
    unfolding checks
    check_high l = rw (at, ltb_no (get_or order i 0) n l)

    -- refused: a number seen before
    pub check_again : set (get_or order i 0) ≡ true → checks n (drop i order) set ≡ false
    unfolding checks
    check_again e = rw (at, e) (and-false (ltb (get_or order i 0) n))

    -- a new number below `n`: the check goes on with it in the set
    pub check_next : get_or order i 0 < n → set (get_or order i 0) ≡ false → checks n (drop i order) set ≡ checks n (drop (i + 1) order) (add (get_or order i 0) set)
    unfolding checks
    check_next l e = rw (at, ltb_yes (get_or order i 0) n l, e)

  -- after the last number: accepted exactly if every number below `n` was seen
  pub check_end : length order ≤ i → checks n (drop i order) set ≡ all_below n set
  unfolding checks
  check_end h = rw (drop_of_length-le order h)
