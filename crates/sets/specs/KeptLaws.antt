-- The numbers of a set one after the other, lowest first: what `x & (x - 1)` leaves, and the loop that sorts them by a test.
use Rattle.std.specs.Prelude.{ℕ, zero, suc, ◌+◌, ◌-◌, ◌*◌, ◌/◌, ◌%◌, ◌^◌, ◌<◌, ◌≡◌, refl, Bool, false, ◌&&◌, ◌||◌, not, cond, ◌⊎◌, eqb}
use Rattle.std.proofs.Common.{mod-lt, pow-suc, arith, sym, ap, ap₂, ◌∙◌, inl, inr}
use Rattle.std.proofs.Math.Bool.{true, xor, and-false}
use Rattle.std.specs.Int.Bits.{bit_and, bit_or, bit_xor, and_step, xor_step, and_self, xor_self}
use Rattle.std.proofs.lemmas.Nat.{and_le_r}
use Rattle.std.specs.Int.Count.{count_trailing_zeros, under}
use Rattle.bools.specs.Bools.{clash, and_parts, same?, eqb_self, eqb_ne}
use Rattle.sets.specs.Set.{has, one_set}
use Rattle.sets.specs.SetLaws.{has_or, has_xor, has_half, has_none, has_one}
use Rattle.sets.specs.Kept.{KeptBy, Sifted, FirstIs, RestIs, Sorting}

-- the lowest digit of x is a member

odd_first : (x : ℕ) → x % 2 ≡ 1 → has x 0 ≡ true
unfolding has
odd_first x e = let z : x / 2 ^ 0 % 2 ≡ 1 = omega arith in ap (λ (y : ℕ). eqb y 1) z

even_first : (x : ℕ) → x % 2 ≡ 0 → has x 0 ≡ false
unfolding has
even_first x e = let z : x / 2 ^ 0 % 2 ≡ 0 = omega arith in ap (λ (y : ℕ). eqb y 1) z

first_in_lem : (k x : ℕ) → 0 < x → x < 2 ^ k → (count_trailing_zeros k x < k) × (has x (count_trailing_zeros k x) ≡ true)
unfolding count_trailing_zeros
first_in_lem zero x p h = absurd (omega arith)
first_in_lem (suc k) x p h = go (λ q g. first_in_lem k (x / 2) q g) (x % 2) refl (mod-lt x (omega arith))
  where
    go : (0 < x / 2 → x / 2 < 2 ^ k → (count_trailing_zeros k (x / 2) < k) × (has (x / 2) (count_trailing_zeros k (x / 2)) ≡ true))
        → (r : ℕ) → x % 2 ≡ r → r < 2 → (under (x % 2) (count_trailing_zeros k (x / 2)) < suc k) × (has x (under (x % 2) (count_trailing_zeros k (x / 2))) ≡ true)
    go f zero e l =
        let w : 2 ^ suc k ≡ 2 ^ k * 2 = pow-suc 2 k in
        let i = f (omega arith) (omega arith) in
        let j = i.0 in
        rw e (omega arith, has_half x (count_trailing_zeros k (x / 2)) ∙ i.1)
    go f (suc zero) e l = rw e (omega arith, odd_first x e)
    go f (suc (suc r)) e l = absurd (omega arith)

pub first_of : (x : ℕ) → 0 < x → x < 2 ^ 64 → FirstIs x (count_trailing_zeros 64 x)
first_of x p h = let f = first_in_lem 64 x p h in record { lowest_is = refl; below = f.0; among = f.1 }

-- no number below it is one
lower_none : (k x d : ℕ) → d < count_trailing_zeros k x → has x d ≡ false
unfolding count_trailing_zeros
lower_none zero x d h = absurd (omega arith)
lower_none (suc k) x d h = go (λ e. lower_none k (x / 2) e) (x % 2) refl d h
  where
    go : ((e : ℕ) → e < count_trailing_zeros k (x / 2) → has (x / 2) e ≡ false) → (r : ℕ) → x % 2 ≡ r → (d : ℕ) → d < under r (count_trailing_zeros k (x / 2)) → has x d ≡ false
    go f zero e zero h = even_first x e
    go f zero e (suc d) h = has_half x d ∙ f d (omega arith)
    go f (suc r) e d h = absurd (omega arith)

pub first_least : {x t : ℕ} → FirstIs x t → (d : ℕ) → d < t → has x d ≡ false
first_least {x} F d h = lower_none 64 x d (omega (arith, F.lowest_is))

-- and all that x and `x & (x - 1)` do not share

lowest_alone : (k x : ℕ) → 0 < x → x < 2 ^ k → bit_xor x (bit_and x (x - 1)) ≡ one_set (count_trailing_zeros k x)
unfolding count_trailing_zeros
lowest_alone zero x p h = absurd (omega arith)
lowest_alone (suc k) x p h = go (λ q g. lowest_alone k (x / 2) q g) (x % 2) refl (mod-lt x (omega arith))
  where
    go : (0 < x / 2 → x / 2 < 2 ^ k → bit_xor (x / 2) (bit_and (x / 2) (x / 2 - 1)) ≡ one_set (count_trailing_zeros k (x / 2)))
        → (r : ℕ) → x % 2 ≡ r → r < 2 → bit_xor x (bit_and x (x - 1)) ≡ one_set (under (x % 2) (count_trailing_zeros k (x / 2)))
    go f zero e l =
        let w : 2 ^ suc k ≡ 2 ^ k * 2 = pow-suc 2 k in
        let i = f (omega arith) (omega arith) in
        let a1 : (x - 1) / 2 ≡ x / 2 - 1 = omega arith in
        let a2 : (x - 1) % 2 ≡ 1 = omega arith in
        let u : bit_and x (x - 1) ≡ bit_and (x / 2) (x / 2 - 1) * 2 = and_step x (x - 1) ∙ rw (a1, a2, e) (omega arith) in
        let v1 : bit_and (x / 2) (x / 2 - 1) * 2 / 2 ≡ bit_and (x / 2) (x / 2 - 1) = omega arith in
        let v2 : bit_and (x / 2) (x / 2 - 1) * 2 % 2 ≡ 0 = omega arith in
        let y : bit_xor x (bit_and (x / 2) (x / 2 - 1) * 2) ≡ one_set (count_trailing_zeros k (x / 2)) * 2 + 0 = xor_step x (bit_and (x / 2) (x / 2 - 1) * 2) ∙ rw (v1, v2, e, i) in
        let z : 2 ^ suc (count_trailing_zeros k (x / 2)) ≡ 2 ^ count_trailing_zeros k (x / 2) * 2 = pow-suc 2 (count_trailing_zeros k (x / 2)) in
        rw (e, u) (y ∙ omega arith)
    go f (suc zero) e l =
        let a1 : (x - 1) / 2 ≡ x / 2 = omega arith in
        let a2 : (x - 1) % 2 ≡ 0 = omega arith in
        let s = and_self (x / 2) in
        let u : bit_and x (x - 1) ≡ x - 1 = and_step x (x - 1) ∙ rw (a1, a2, e, s) (omega arith) in
        let t = xor_self (x / 2) in
        rw (e, u) (xor_step x (x - 1) ∙ rw (a1, a2, e, t))
    go f (suc (suc r)) e l = absurd (omega arith)

pub rest_of : (x : ℕ) → 0 < x → x < 2 ^ 64 → RestIs x (bit_and x (x - 1))
rest_of x p h = record { taken = lowest_alone 64 x p h; less = omega (arith, and_le_r x (x - 1)) }

-- the loop: nothing is sorted yet, one number after the other is, all are

pub sort_none : (P : ℕ → Bool) (x : ℕ) → x < 2 ^ 64 → Sorting P x x 0
sort_none P x h = record { small = h; within = λ d e. e; sorted = λ d. ap (λ (b : Bool). b || (has x d && P d)) (has_none d) }

pub sort_end : {P : ℕ → Bool} {x left met : ℕ} → Sorting P x left met → left ≡ 0 → KeptBy P x met
sort_end {P} {x} {left} {met} S e d =
    sym (none (has met d)) ∙ ap (λ (b : Bool). has met d || (b && P d)) (sym (ap (λ (z : ℕ). has z d) e ∙ has_none d)) ∙ S.sorted d
  where
    none : (p : Bool) → (p || false) ≡ p
    none true = refl
    none false = refl

-- what the rest has lost is the lowest number alone
module _ {left t next : ℕ} (F : FirstIs left t) (R : RestIs left next) where
  one : (d : ℕ) → has (bit_xor left next) d ≡ eqb d t
  one d = ap (λ (z : ℕ). has z d) (R.taken ∙ ap one_set (sym F.lowest_is)) ∙ has_one t d

  pub rest_has : (d : ℕ) → has next d ≡ cond (eqb d t) false (has left d)
  unfolding xor
  rest_has d = back (has left d) (has next d) (eqb d t) (sym (has_xor left next d) ∙ one d) (at (same? d t))
    where
      at : (d ≡ t) ⊎ (d ≡ t → ⊥) → (eqb d t ≡ true → has left d ≡ true)
      at (inl q) e = rw q F.among
      at (inr ne) e = clash e (eqb_ne d t ne)

      back : (l n q : Bool) → xor l n ≡ q → (q ≡ true → l ≡ true) → n ≡ cond q false l
      back true true q e f = rw (← e)
      back true false q e f = rw (← e)
      back false true q e f = clash (f (sym e)) refl
      back false false q e f = rw (← e)

  -- it lies in the set still
  pub rest_within : (d : ℕ) → has next d ≡ true → has left d ≡ true
  rest_within d e = left_of (eqb d t) (has left d) (sym (rest_has d) ∙ e)
    where
      left_of : (q l : Bool) → cond q false l ≡ true → l ≡ true
      left_of true l y = clash y refl
      left_of false l y = y

  -- the number at hand is t, p the test's answer, and `more` what is met
  module _ {P : ℕ → Bool} {x met : ℕ} (S : Sorting P x left met) where
    pub sort_next_at : {p : Bool} {more : ℕ} → p ≡ P t → more ≡ cond p (bit_xor left next) 0 → Sorting P x next (bit_or met more)
    sort_next_at {p} {more} e m = record {
      small = let l = R.less in let s = S.small in omega arith;
      within = λ d y. S.within d (rest_within d y);
      sorted = λ d. ap₂ (λ (k l : Bool). k || (l && P d)) (has_or met more d ∙ ap (λ (b : Bool). has met d || b) (met_has d)) (rest_has d) ∙ go d (same? d t) ∙ S.sorted d;
    }
      where
        kept_has : (b : Bool) (z d : ℕ) → has (cond b z 0) d ≡ (b && has z d)
        kept_has true z d = refl
        kept_has false z d = has_none d

        met_has : (d : ℕ) → has more d ≡ (p && eqb d t)
        met_has d = ap (λ (z : ℕ). has z d) m ∙ kept_has p (bit_xor left next) d ∙ ap (λ (b : Bool). p && b) (one d)

        here : (k q : Bool) → ((k || (q && true)) || false) ≡ (k || (true && q))
        here true q = refl
        here false true = refl
        here false false = refl

        elsewhere : (k l q r : Bool) → ((k || (q && false)) || (l && r)) ≡ (k || (l && r))
        elsewhere k l q r = ap (λ (b : Bool). (k || b) || (l && r)) (and-false q) ∙ twice k (l && r)
          where
            twice : (k r : Bool) → ((k || false) || r) ≡ (k || r)
            twice true r = refl
            twice false r = refl

        go : (d : ℕ) → (d ≡ t) ⊎ (d ≡ t → ⊥) → ((has met d || (p && eqb d t)) || (cond (eqb d t) false (has left d) && P d)) ≡ (has met d || (has left d && P d))
        go d (inl q) = rw (q, eqb_self t, F.among, e) (here (has met t) (P t))
        go d (inr ne) = rw (eqb_ne d t ne) (elsewhere (has met d) (has left d) p (P d))

-- the number at hand is t, at whatever width w the code has it
module _ {P : ℕ → Bool} {x left met t w : ℕ} (S : Sorting P x left met) (F : FirstIs left t) (w-is : w ≡ t) where
  pub sort_among : has x w ≡ true
  sort_among = rw w-is (S.within t F.among)

  -- `next` is the rest, p the test's answer, and `more` what is met
  module _ {next : ℕ} (R : RestIs left next) where
    pub sort_next : {p : Bool} {more : ℕ} → p ≡ P w → more ≡ cond p (bit_xor left next) 0 → Sorting P x next (bit_or met more)
    sort_next e m = sort_next_at F R S (e ∙ ap P w-is) m

-- a filter first, and the test where it passes
pub sift_kept : {P : ℕ → Bool} {x y : ℕ} (r : ℕ) → Sifted P x y → KeptBy P y r → KeptBy P x r
sift_kept {P} {x} {y} r S K d = K d ∙ go (has x d) refl (has y d) refl (P d) refl
  where
    go : (a : Bool) → has x d ≡ a → (b : Bool) → has y d ≡ b → (c : Bool) → P d ≡ c → (b && c) ≡ (a && c)
    go true e true f c g = refl
    go true e false f true g = clash (S.no_fewer d e g) f
    go true e false f false g = refl
    go false e true f c g = clash (S.within d f) e
    go false e false f c g = refl

-- a filter that is a test of its own, and passes where P holds
pub kept_sifts : (F P : ℕ → Bool) (x r : ℕ) → KeptBy F x r → ((d : ℕ) → has x d ≡ true → P d ≡ true → F d ≡ true) → Sifted P x r
kept_sifts F P x r K pass = record {
  within = λ d e. (and_parts (has x d) (F d) (sym (K d) ∙ e)).0;
  no_fewer = λ d e p. K d ∙ ap₂ (λ (a b : Bool). a && b) e (pass d e p);
}

-- tests that agree on the set keep the same
pub kept_same : (P Q : ℕ → Bool) (x r : ℕ) → ((d : ℕ) → has x d ≡ true → P d ≡ Q d) → KeptBy P x r → KeptBy Q x r
kept_same P Q x r same K d = K d ∙ go (has x d) refl
  where
    go : (a : Bool) → has x d ≡ a → (a && P d) ≡ (a && Q d)
    go true e = same d e
    go false e = refl

-- and what is left of the set is what the opposite test keeps
pub kept_others : (P : ℕ → Bool) (x r : ℕ) → KeptBy P x r → KeptBy (λ d. not (P d)) x (bit_xor x r)
unfolding xor
kept_others P x r K d = has_xor x r d ∙ ap (xor (has x d)) (K d) ∙ bits (has x d) (P d)
  where
    bits : (a p : Bool) → xor a (a && p) ≡ (a && not p)
    bits true true = refl
    bits true false = refl
    bits false p = refl

-- what either of two tests keeps
pub kept_either : (P Q : ℕ → Bool) (x r s : ℕ) → KeptBy P x r → KeptBy Q x s → KeptBy (λ d. P d || Q d) x (bit_or r s)
kept_either P Q x r s K L d = has_or r s d ∙ ap₂ (λ (a b : Bool). a || b) (K d) (L d) ∙ bits (has x d) (P d) (Q d)
  where
    bits : (a p q : Bool) → (a && p || a && q) ≡ (a && (p || q))
    bits true p q = refl
    bits false p q = refl
