-- `due` is `Due`, and a predicate that is not due makes no difference.
use Rattle.std.specs.Prelude.{ℕ, ◌≡◌, refl, Bool, true, false, ◌||◌, ◌↔◌, ◌⊎◌, List, [], ◌∷◌}
use Rattle.std.proofs.Common.{sym, ap, ◌∙◌, subst, inl, inr}
use Rattle.std.proofs.Math.Path.{fun_ext}
use Rattle.bools.specs.Bools.{clash, not_true, stable, iff_eq, or_cases, or_left, or_right, xor_differ, differ_xor, same?}
use Rattle.strategy.specs.Assignment.{Assignment, update, Among, AgreeOff}
use Rattle.strategy.proofs.AssignmentLaws.{update_same, update_other, update_self, update_twice, update_swap, update_off, off_more}
use Rattle.strategy.specs.Strategy.{Formula, Due}
use Rattle.strategy.specs.Trace.{decides, some_outcomes, due}

some_gives : (l : List ℕ) (P : Assignment → Bool) (a : Assignment) → some_outcomes l P a ≡ true → (q : Assignment) × AgreeOff l q a × (P q ≡ true)
unfolding some_outcomes
some_gives [] P a h = (a, λ d n. refl, h)
some_gives (c ∷ cs) P a h = go (or_cases (some_outcomes cs P (update a c true)) (some_outcomes cs P (update a c false)) h) (λ b. some_gives cs P (update a c b))
  where
    Found : List ℕ → Assignment → Type 0
    Found l r = (q : Assignment) × AgreeOff l q r × (P q ≡ true)

    step : (b : Bool) → Found cs (update a c b) → Found (c ∷ cs) a
    step b r = (r.0, λ d n. r.1 d (λ m. n (inr m)) ∙ update_other a c b d (λ e. n (inl e)), r.2)

    go : (some_outcomes cs P (update a c true) ≡ true) ⊎ (some_outcomes cs P (update a c false) ≡ true)
        → ((b : Bool) → some_outcomes cs P (update a c b) ≡ true → Found cs (update a c b)) → Found (c ∷ cs) a
    go (inl h) ih = step true (ih true h)
    go (inr h) ih = step false (ih false h)

some_from : (l : List ℕ) (P : Assignment → Bool) (a q : Assignment) → AgreeOff l q a → P q ≡ true → some_outcomes l P a ≡ true
unfolding some_outcomes
some_from [] P a q g h =
    let e : q ≡ a = fun_ext (λ d. g d (λ m. m)) in
    rw e at h
some_from (c ∷ cs) P a q g h = go (q c) refl (λ b k. some_from cs P (update a c b) q k h)
  where
    off : (b : Bool) → q c ≡ b → AgreeOff cs q (update a c b)
    off b e d n = at (same? d c)
      where
        at : (d ≡ c) ⊎ (d ≡ c → ⊥) → q d ≡ update a c b d
        at (inl k) = rw (k, update_same a c b) e
        at (inr k) = g d (elim [ inl x ↦ k x | inr m ↦ n m ]) ∙ sym (update_other a c b d k)

    go : (b : Bool) → q c ≡ b → ((b : Bool) → AgreeOff cs q (update a c b) → some_outcomes cs P (update a c b) ≡ true)
        → (some_outcomes cs P (update a c true) || some_outcomes cs P (update a c false)) ≡ true
    go true e ih = or_left (some_outcomes cs P (update a c false)) (ih true (off true e))
    go false e ih = or_right (some_outcomes cs P (update a c true)) (ih false (off false e))

-- THE TEST IS THE SENTENCE
pub due_law : (f : Formula) (c : ℕ) (later : List ℕ) (a : Assignment) → (due f c later a ≡ true) ↔ Due f c later a
unfolding due decides
due_law f c later a = (
  λ h. let r = some_gives later (decides f c) a h in (r.0, r.1, xor_differ (f (update r.0 c true)) (f (update r.0 c false)) r.2),
  λ r. some_from later (decides f c) a r.0 r.1 (differ_xor (f (update r.0 c true)) (f (update r.0 c false)) r.2),
)

-- where `c` is not due its outcome makes no difference, whatever the later outcomes
pub idle : (f : Formula) (c : ℕ) (later : List ℕ) (a : Assignment) → due f c later a ≡ false
    → (q : Assignment) → AgreeOff later q a → (b : Bool) → f (update q c b) ≡ f q
idle f c later a h q g b = to b ∙ sym (to (q c)) ∙ ap f (update_self q c)
  where
    eq : f (update q c true) ≡ f (update q c false)
    eq = stable (f (update q c true)) (f (update q c false)) (λ n. clash ((due_law f c later a).1 (q, g, n)) h)

    to : (b : Bool) → f (update q c b) ≡ f (update q c false)
    to true = eq
    to false = refl

-- where every outcome of the later predicates gives one value, none of them is due
pub settled_none : (f : Formula) (c : ℕ) (later : List ℕ) (a : Assignment) (v : Bool)
    → ((q : Assignment) → AgreeOff (c ∷ later) q a → f q ≡ v) → due f c later a ≡ false
settled_none f c later a v h = not_true (due f c later a) (λ e.
    (let D = (due_law f c later a).0 e in
    let at : (b : Bool) → f (update D.0 c b) ≡ v = λ b. h (update D.0 c b) (update_off (c ∷ later) D.0 a c b (inl refl) (off_more c later D.0 a D.1)) in
    D.2 (at true ∙ sym (at false))))

-- passing a predicate that is not due changes nothing for those to come
pub due_passed : (f : Formula) (c : ℕ) (cs : List ℕ) (a : Assignment) → (Among c cs → ⊥) → due f c cs a ≡ false
    → (d : ℕ) → Among d cs → due f d (c ∷ cs) a ≡ due f d cs a
due_passed f c cs a n h d m = iff_eq (due f d (c ∷ cs) a) (due f d cs a)
    (λ e. (due_law f d cs a).1 (to ((due_law f d (c ∷ cs) a).0 e)))
    (λ e. (due_law f d (c ∷ cs) a).1 (from ((due_law f d cs a).0 e)))
  where
    ne : d ≡ c → ⊥
    ne e = n (subst (λ x. Among x cs) e m)

    from : Due f d cs a → Due f d (c ∷ cs) a
    from D = (D.0, off_more c cs D.0 a D.1, D.2)

    to : Due f d (c ∷ cs) a → Due f d cs a
    to D = (r, r_off, λ e. D.2 (same true ∙ e ∙ sym (same false)))
      where
        q : Assignment
        q = D.0

        r : Assignment
        r = update q c (a c)

        r_off : AgreeOff cs r a
        r_off x k = at (same? x c)
          where
            at : (x ≡ c) ⊎ (x ≡ c → ⊥) → update q c (a c) x ≡ a x
            at (inl e) = rw (e, update_same q c (a c))
            at (inr j) = update_other q c (a c) x j ∙ D.1 x (elim [ inl e ↦ j e | inr y ↦ k y ])

        -- `r` with `d` at `b`, and `c` put back to what it is in `q`
        back : (b : Bool) → update (update r d b) c (q c) ≡ update q d b
        back b =
            ap (λ x. update x c (q c)) (update_swap q c d (a c) b ne)
            ∙ update_twice (update q d b) c (q c) (a c)
            ∙ sym (update_swap q c d (q c) b ne)
            ∙ ap (λ x. update x d b) (update_self q c)

        same : (b : Bool) → f (update q d b) ≡ f (update r d b)
        same b = ap f (sym (back b)) ∙ idle f c cs a h (update r d b) (update_off cs r a d b m r_off) (q c)
