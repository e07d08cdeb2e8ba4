-- The check of an order with the numbers seen held as one set: the state of its loop, and each thing that a turn can do.
use Rattle.std.specs.Prelude.{ℕ, ◌+◌, ◌^◌, ◌≤◌, ◌<◌, ◌≡◌, true, false, ◌||◌, ◌⊎◌, List, eqb, ltb, length, get_or, drop}
use Rattle.std.proofs.Common.{sym, ap, ◌∙◌, inl, inr, pow_pos}
use Rattle.std.proofs.Math.Path.{fun_ext}
use Rattle.strategy.specs.Order.{is_order, checks, all_below, add}
use Rattle.strategy.proofs.OrderLaws.{all_below_gives, all_below_of}
use Rattle.strategy.proofs.OrderCheck.{order_checks, check_high, check_again, check_next, check_end}
use Rattle.bools.specs.Bools.{which, iff_eq, eqb_self, eqb_eq, ltb_yes, ltb_lt, ltb_le}
use Rattle.sets.specs.Set.{has, one_set, below_set, set_with}
use Rattle.sets.specs.SetLaws.{empty_has, has_or, has_one, has_below, has_high, below_lt, same_set, with_lt}

-- with one number more, as a set of the order's check
pub has_with : (x d : ℕ) → has (set_with x d) ≡ add d (has x)
has_with x d = fun_ext (λ c. has_or x (one_set d) c ∙ ap (λ b. has x c || b) (has_one d c))

-- a set below `2 ^ n` holds all numbers below `n` exactly if it is `below_set n`
pub all_seen : (n x : ℕ) → x < 2 ^ n → eqb x (below_set n) ≡ all_below n (has x)
all_seen n x h = iff_eq (eqb x (below_set n)) (all_below n (has x)) to from
  where
    to : eqb x (below_set n) ≡ true → all_below n (has x) ≡ true
    to e = all_below_of n (has x) (λ d m. ap (λ (z : ℕ). has z d) (eqb_eq x (below_set n) e) ∙ has_below n d ∙ ltb_yes d n m)

    same : all_below n (has x) ≡ true → (d : ℕ) → (ltb d n ≡ true) ⊎ (ltb d n ≡ false) → has x d ≡ has (below_set n) d
    same e d (inl y) = all_below_gives n (has x) e d (ltb_lt d n y) ∙ sym (has_below n d ∙ y)
    same e d (inr y) = has_high n x d h (ltb_le d n y) ∙ sym (has_below n d ∙ y)

    from : all_below n (has x) ≡ true → eqb x (below_set n) ≡ true
    from e =
        let q : x ≡ below_set n = same_set n x (below_set n) h (below_lt n) (λ d. same e d (which (ltb d n))) in
        ap (λ (z : ℕ). eqb z (below_set n)) q ∙ eqb_self (below_set n)

-- the first `i` numbers are checked, `seen` holds them, and the order is accepted exactly if the rest is
pub record Checked (n : ℕ) (order : List ℕ) (i seen : ℕ) : Type 0 where
  pub rest : is_order n order ≡ checks n (drop i order) (has seen)
  pub small : seen < 2 ^ n

pub checked_none : (n : ℕ) (order : List ℕ) → Checked n order 0 0
checked_none n order = record { rest = order_checks n order ∙ ap (checks n order) (sym empty_has); small = pow_pos n }

module _ (n : ℕ) (order : List ℕ) (i seen : ℕ) (C : Checked n order i seen) where
  -- accepted exactly if every number below `n` was seen
  pub checked_end : length order ≤ i → eqb seen (below_set n) ≡ is_order n order
  checked_end e = all_seen n seen C.small ∙ sym (C.rest ∙ check_end n order i (has seen) e)

  module _ (h : i < length order) where
    -- refused: a number that is not below `n`, or one seen before
    pub checked_high : n ≤ get_or order i 0 → false ≡ is_order n order
    checked_high l = sym (C.rest ∙ check_high n order i (has seen) h l)

    pub checked_again : has seen (get_or order i 0) ≡ true → false ≡ is_order n order
    checked_again e = sym (C.rest ∙ check_again n order i (has seen) h e)

    pub checked_next : get_or order i 0 < n → has seen (get_or order i 0) ≡ false → Checked n order (i + 1) (set_with seen (get_or order i 0))
    checked_next l e = record {
      rest = C.rest ∙ check_next n order i (has seen) h l e ∙ ap (checks n (drop (i + 1) order)) (sym (has_with seen (get_or order i 0)));
      small = with_lt n seen (get_or order i 0) C.small l;
    }
