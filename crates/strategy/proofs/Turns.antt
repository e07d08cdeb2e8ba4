-- Turn by turn: a strategy that is right for the turns to come has to probe what is due.
use Rattle.std.specs.Prelude.{ℕ, ◌+◌, ◌≤◌, ◌≡◌, refl, Bool, true, false, cond, List, [], ◌∷◌, ◌++◌, length}
use Rattle.std.proofs.Common.{arith, sym, ap, ◌∙◌, subst, inl, inr, length-append}
use Rattle.std.proofs.lemmas.Bool.{false≢true}
use Rattle.strategy.specs.Assignment.{Assignment, update, Among, Once, AgreeOn, AgreeOff, keep_if}
use Rattle.strategy.proofs.AssignmentLaws.{update_other, update_off, off_more}
use Rattle.strategy.specs.Strategy.{Formula, Due, State, Strategy, turn, final_state_from, predicates}
use Rattle.strategy.specs.Trace.{due, trace}
use Rattle.strategy.proofs.DueLaws.{due_law, settled_none}

-- right from a state on, for the assignments that have `a`'s outcomes off the turns to come
abbrev pub RightFrom : Formula → List ℕ → Strategy → Assignment → State → Type 0
RightFrom f cs S a s = (q : Assignment) → AgreeOff cs q a → S.answer (final_state_from S q cs s) ≡ f q

-- the state hangs only on the outcomes of the predicates whose turns they are
final_agree : (S : Strategy) (q r : Assignment) (cs : List ℕ) (s : State) → AgreeOn cs q r → final_state_from S q cs s ≡ final_state_from S r cs s
unfolding final_state_from turn
final_agree S q r [] s g = refl
final_agree S q r (c ∷ cs) s g = rw (g c (inl refl)) (final_agree S q r cs (turn S r c s) (λ d m. g d (inr m)))

right_turn : (f : Formula) (c : ℕ) (cs : List ℕ) (S : Strategy) (a : Assignment) (s : State) → (Among c cs → ⊥)
    → RightFrom f (c ∷ cs) S a s → RightFrom f cs S a (turn S a c s)
unfolding final_state_from turn
right_turn f c cs S a s n R q g = rw (← (g c n)) (R q (off_more c cs q a g))

-- what is due is probed: were it passed, two assignments that differ in it alone would give one answer for two values
must_probe : (f : Formula) (c : ℕ) (cs : List ℕ) (S : Strategy) (a : Assignment) (s : State) → (Among c cs → ⊥)
    → RightFrom f (c ∷ cs) S a s → Due f c cs a → S.probe c s ≡ true
unfolding final_state_from turn
must_probe f c cs S a s n R D = go (S.probe c s) refl
  where
    at : Bool → Assignment
    at b = update D.0 c b

    right : (b : Bool) → S.answer (final_state_from S (at b) (c ∷ cs) s) ≡ f (at b)
    right b = R (at b) (update_off (c ∷ cs) D.0 a c b (inl refl) (off_more c cs D.0 a D.1))

    on : AgreeOn cs (at true) (at false)
    on d m =
        let ne : d ≡ c → ⊥ = λ e. n (subst (λ x. Among x cs) e m) in
        update_other D.0 c true d ne ∙ sym (update_other D.0 c false d ne)

    go : (b : Bool) → S.probe c s ≡ b → S.probe c s ≡ true
    go true e = e
    go false e =
        let passes : (b : Bool) → final_state_from S (at b) (c ∷ cs) s ≡ final_state_from S (at b) cs s = λ b. rw e in
        absurd (D.2 (sym (right true) ∙ ap S.answer (passes true ∙ final_agree S (at true) (at false) cs s on ∙ sym (passes false)) ∙ right false))

-- what a state holds stays in it
among_append : (x : ℕ) (s t : State) → Among x (predicates s) → Among x (predicates (s ++ t))
unfolding predicates
among_append x [] t x'' = elim x'' [ ]
among_append x (y ∷ s) t (inl e) = inl e
among_append x (y ∷ s) t (inr m) = inr (among_append x s t m)

among_last : (c : ℕ) (b : Bool) (s : State) → Among c (predicates (s ++ ((c, b) ∷ [])))
unfolding predicates
among_last c b [] = inl refl
among_last c b (y ∷ s) = inr (among_last c b s)

among_turn : (S : Strategy) (a : Assignment) (c : ℕ) (s : State) (x : ℕ) → Among x (predicates s) → Among x (predicates (turn S a c s))
unfolding turn
among_turn S a c s x m = go (S.probe c s)
  where
    go : (b : Bool) → Among x (predicates (cond b (s ++ ((c, a c) ∷ [])) s))
    go true = among_append x s ((c, a c) ∷ []) m
    go false = m

among_final : (S : Strategy) (a : Assignment) (cs : List ℕ) (s : State) (x : ℕ) → Among x (predicates s) → Among x (predicates (final_state_from S a cs s))
unfolding final_state_from
among_final S a [] s x m = m
among_final S a (c ∷ cs) s x m = among_final S a cs (turn S a c s) x (among_turn S a c s x m)

-- each predicate of the trace is probed
pub probed_from : (f : Formula) (S : Strategy) (a : Assignment) (cs : List ℕ) (s : State) → Once cs → RightFrom f cs S a s
    → (x : ℕ) → Among x (predicates (trace f a cs)) → Among x (predicates (final_state_from S a cs s))
unfolding final_state_from trace predicates turn
probed_from f S a [] s o R x m = absurd m
probed_from f S a (c ∷ cs) s o R x m =
    go (due f c cs a) refl (probed_from f S a cs (turn S a c s) o.1 (right_turn f c cs S a s o.0 R) x) m
  where
    go : (b : Bool) → due f c cs a ≡ b → (Among x (predicates (trace f a cs)) → Among x (predicates (final_state_from S a cs (turn S a c s))))
        → Among x (predicates (keep_if b (c, a c) (trace f a cs))) → Among x (predicates (final_state_from S a cs (turn S a c s)))
    go true e ih (inl y) =
        let p : S.probe c s ≡ true = must_probe f c cs S a s o.0 R ((due_law f c cs a).0 e) in
        among_final S a cs (turn S a c s) x (rw (y, p) (among_last c (a c) s))
    go true e ih (inr k) = ih k
    go false e ih k = ih k

-- and so there are at least as many probes
pub counted_from : (f : Formula) (S : Strategy) (a : Assignment) (cs : List ℕ) (s : State) → Once cs → RightFrom f cs S a s
    → length s + length (trace f a cs) ≤ length (final_state_from S a cs s)
unfolding final_state_from trace turn
counted_from f S a [] s o R = omega arith
counted_from f S a (c ∷ cs) s o R =
    go (due f c cs a) refl (S.probe c s) refl (counted_from f S a cs (turn S a c s) o.1 (right_turn f c cs S a s o.0 R))
  where
    go : (b : Bool) → due f c cs a ≡ b → (p : Bool) → S.probe c s ≡ p
        → length (cond p (s ++ ((c, a c) ∷ [])) s) + length (trace f a cs) ≤ length (final_state_from S a cs (cond p (s ++ ((c, a c) ∷ [])) s))
        → length s + length (keep_if b (c, a c) (trace f a cs)) ≤ length (final_state_from S a cs (cond p (s ++ ((c, a c) ∷ [])) s))
    go true e true p ih = omega (arith, length-append s ((c, a c) ∷ []))
    go true e false p ih = absurd (false≢true (sym p ∙ must_probe f c cs S a s o.0 R ((due_law f c cs a).0 e)))
    go false e true p ih = omega (arith, length-append s ((c, a c) ∷ []))
    go false e false p ih = ih

-- once every outcome of the turns to come gives one value, nothing more is due
pub trace_settled : (f : Formula) (a : Assignment) (cs : List ℕ) (v : Bool) → ((q : Assignment) → AgreeOff cs q a → f q ≡ v) → trace f a cs ≡ []
unfolding trace
trace_settled f a [] v h = refl
trace_settled f a (c ∷ cs) v h = rw (settled_none f c cs a v h) (trace_settled f a cs v (λ q g. h q (off_more c cs q a g)))
