-- Laws of updates and of membership.
use Rattle.std.specs.Prelude.{ℕ, zero, suc, ◌<◌, ◌≡◌, refl, Bool, true, false, cond, ◌⊎◌, List, [], ◌∷◌, eqb, length, get_or}
use Rattle.std.proofs.Common.{arith, sym, ◌∙◌, subst, inl, inr}
use Rattle.std.proofs.Math.Path.{fun_ext}
use Rattle.bools.specs.Bools.{clash, not_true, or_cases, or_right, eqb_self, eqb_eq, eqb_ne, same?}
use Rattle.strategy.specs.Assignment.{Assignment, update, Among, elem, AgreeOff}

pub update_same : (a : Assignment) (c : ℕ) (b : Bool) → update a c b c ≡ b
unfolding update
update_same a c b = rw (eqb_self c)

pub update_other : (a : Assignment) (c : ℕ) (b : Bool) (d : ℕ) → (d ≡ c → ⊥) → update a c b d ≡ a d
unfolding update
update_other a c b d h = rw (eqb_ne d c h)

pub update_self : (a : Assignment) (c : ℕ) → update a c (a c) ≡ a
update_self a c = fun_ext (λ d. go d (same? d c))
  where
    go : (d : ℕ) → (d ≡ c) ⊎ (d ≡ c → ⊥) → update a c (a c) d ≡ a d
    go d (inl e) = rw (e, update_same a c (a c))
    go d (inr n) = update_other a c (a c) d n

pub update_twice : (a : Assignment) (c : ℕ) (b v : Bool) → update (update a c v) c b ≡ update a c b
unfolding update
update_twice a c b v = fun_ext (λ d. go d (eqb d c))
  where
    go : (d : ℕ) (e : Bool) → cond e b (cond e v (a d)) ≡ cond e b (a d)
    go d true = refl
    go d false = refl

pub update_swap : (a : Assignment) (c d : ℕ) (v w : Bool) → (d ≡ c → ⊥) → update (update a c v) d w ≡ update (update a d w) c v
update_swap a c d v w n = fun_ext (λ x. go x (same? x c) (same? x d))
  where
    go : (x : ℕ) → (x ≡ c) ⊎ (x ≡ c → ⊥) → (x ≡ d) ⊎ (x ≡ d → ⊥) → update (update a c v) d w x ≡ update (update a d w) c v x
    go x (inl y) (inl z) = absurd (n (sym z ∙ y))
    go x (inl y) (inr k) = update_other (update a c v) d w x k ∙ rw y (update_same a c v ∙ sym (update_same (update a d w) c v))
    go x (inr k) (inl z) = rw z (update_same (update a c v) d w ∙ sym (update_other (update a d w) c v d n ∙ update_same a d w))
    go x (inr k) (inr l) = update_other (update a c v) d w x l ∙ update_other a c v x k ∙ sym (update_other (update a d w) c v x k ∙ update_other a d w x l)

pub update_agrees : (a b : Assignment) (c : ℕ) (v : Bool) (d : ℕ) → a d ≡ b d → update a c v d ≡ update b c v d
unfolding update
update_agrees a b c v d e = rw e

-- setting a predicate of the list keeps an agreement off the list
pub update_off : (l : List ℕ) (q a : Assignment) (c : ℕ) (b : Bool) → Among c l → AgreeOff l q a → AgreeOff l (update q c b) a
update_off l q a c b m g d n = update_other q c b d (λ e. n (subst (λ x. Among x l) (sym e) m)) ∙ g d n

-- an agreement off a list is one off a longer list
pub off_more : (c : ℕ) (l : List ℕ) (q a : Assignment) → AgreeOff l q a → AgreeOff (c ∷ l) q a
off_more c l q a g d n = g d (λ m. n (inr m))

pub among? : (c : ℕ) (l : List ℕ) → Among c l ⊎ (Among c l → ⊥)
among? c [] = inr (λ h. h)
among? c (d ∷ ds) = go (same? c d) (among? c ds)
  where
    go : (c ≡ d) ⊎ (c ≡ d → ⊥) → Among c ds ⊎ (Among c ds → ⊥) → Among c (d ∷ ds) ⊎ (Among c (d ∷ ds) → ⊥)
    go (inl e) r = inl (inl e)
    go (inr n) (inl m) = inl (inr m)
    go (inr n) (inr k) = inr (elim [ inl e ↦ n e | inr m ↦ k m ])

pub elem_yes : (c : ℕ) (l : List ℕ) → Among c l → elem c l ≡ true
unfolding elem
elem_yes c [] x' = elim x' [ ]
elem_yes c (d ∷ ds) (inl e) = rw (e, eqb_self d)
elem_yes c (d ∷ ds) (inr m) = or_right (eqb c d) (elem_yes c ds m)

pub elem_among : (c : ℕ) (l : List ℕ) → elem c l ≡ true → Among c l
unfolding elem
elem_among c [] h = clash h refl
elem_among c (d ∷ ds) h =
    let go : (eqb c d ≡ true) ⊎ (elem c ds ≡ true) → Among c (d ∷ ds) = elim [ inl e ↦ inl (eqb_eq c d e) | inr e ↦ inr (elem_among c ds e) ] in
    go (or_cases (eqb c d) (elem c ds) h)

pub elem_no : (c : ℕ) (l : List ℕ) → (Among c l → ⊥) → elem c l ≡ false
elem_no c l n = not_true (elem c l) (λ e. n (elem_among c l e))

-- what stands at a place of a list is one of it
pub among_at : (l : List ℕ) (i : ℕ) → i < length l → Among (get_or l i 0) l
among_at [] i h = absurd (omega arith)
among_at (c ∷ cs) zero h = inl refl
among_at (c ∷ cs) (suc i) h = inr (among_at cs i (omega arith))
