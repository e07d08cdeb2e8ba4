-- Ours is a strategy and right: on every assignment its probes are the trace and its answer is the value.
use Rattle.std.specs.Prelude.{ℕ, ◌≡◌, refl, Bool, cond, ◌↔◌, ◌⊎◌}
use Rattle.std.proofs.Math.Path.{sym, fun_ext}
use Rattle.std.proofs.Common.{ap, ◌∙◌, subst, inl, inr}
use Rattle.std.proofs.Math.Bool.{true, false}
use mathlib.Core.List.{List, [], ◌∷◌, ◌++◌, append_assoc, append-nil}
use Rattle.bools.specs.Bools.{iff_eq, eqb_self, eqb_ne}
use Rattle.strategy.specs.Assignment.{Assignment, all_no, update, Among, Once, AgreeOff, AgreeOn, keep_if}
use Rattle.strategy.proofs.AssignmentLaws.{update_same, update_other, update_off, off_more, among?}
use Rattle.strategy.specs.Strategy.{Formula, Due, State, Strategy, turn, final_state_from, final_state, answer_of, Right}
use Rattle.strategy.specs.Fixing.{ReadsOnly, RightFixing}
use Rattle.strategy.specs.Trace.{due, trace}
use Rattle.strategy.proofs.DueLaws.{due_law, idle}
use Rattle.strategy.specs.Ours.{recall, passed_as_no, later_than, ours}

-- a probe adds its outcome to what the state tells
recall_last : (a : Assignment) (s : State) (c : ℕ) (b : Bool) → recall a (s ++ ((c, b) ∷ [])) ≡ update (recall a s) c b
unfolding recall
recall_last a [] c b = refl
recall_last a (x ∷ s) c b = recall_last (update a x.0 x.1) s c b

-- at each turn of `cs`, `later_than c order` is what follows
abbrev Turns : List ℕ → List ℕ → Type 0
Turns order [] = Unit {0}
Turns order (c ∷ cs) = (later_than c order ≡ cs) × Turns order cs

turns_more : (x : ℕ) (order cs : List ℕ) → (Among x cs → ⊥) → Turns order cs → Turns (x ∷ order) cs
unfolding later_than
turns_more x order [] n u = tt
turns_more x order (c ∷ cs) n u = (rw (eqb_ne c x (λ e. n (inl (sym e)))) u.0, turns_more x order cs (λ m. n (inr m)) u.1)

turns : (order : List ℕ) → Once order → Turns order order
unfolding later_than
turns [] o = tt
turns (c ∷ cs) o = (rw (eqb_self c), turns_more c cs cs o.0 (turns cs o.1))

-- the invariant: with the turns of `cs` to come, the formula cannot tell the true assignment `a` from `t`, what is told
abbrev pub Same : Formula → List ℕ → Assignment → Assignment → Type 0
Same f cs a t = (q r : Assignment) → AgreeOff cs q a → AgreeOff cs r t → AgreeOn cs q r → f q ≡ f r

same_sym : (f : Formula) (cs : List ℕ) (a t : Assignment) → Same f cs a t → Same f cs t a
same_sym f cs a t S q r g h o = sym (S r q h g (λ d m. sym (o d m)))

module _ (f : Formula) (c : ℕ) (cs : List ℕ) (n : Among c cs → ⊥) where
  later_other : (d : ℕ) → Among d cs → d ≡ c → ⊥
  later_other d m e = n (subst (λ x. Among x cs) e m)

  -- so what is due on the one is due on the other
  due_same : (a t : Assignment) → Same f (c ∷ cs) a t → Due f c cs a → Due f c cs t
  due_same a t S D = (r, r_off, λ e. D.2 (to true ∙ e ∙ sym (to false)))
    where
      q : Assignment
      q = D.0

      -- `q` on the later predicates, `t` off them
      pick : (d : ℕ) → Among d cs ⊎ (Among d cs → ⊥) → Bool
      pick d (inl m) = q d
      pick d (inr k) = t d

      r : Assignment
      r d = pick d (among? d cs)

      r_off : AgreeOff cs r t
      r_off d k = go (among? d cs)
        where
          go : (w : Among d cs ⊎ (Among d cs → ⊥)) → pick d w ≡ t d
          go (inl m) = absurd (k m)
          go (inr j) = refl

      r_on : AgreeOn cs q r
      r_on d m = go (among? d cs)
        where
          go : (w : Among d cs ⊎ (Among d cs → ⊥)) → q d ≡ pick d w
          go (inl j) = refl
          go (inr j) = absurd (j m)

      on : (b : Bool) → AgreeOn (c ∷ cs) (update q c b) (update r c b)
      on b d (inl e) = rw (e, update_same q c b, update_same r c b)
      on b d (inr m) = update_other q c b d (later_other d m) ∙ r_on d m ∙ sym (update_other r c b d (later_other d m))

      to : (b : Bool) → f (update q c b) ≡ f (update r c b)
      to b = S (update q c b) (update r c b)
          (update_off (c ∷ cs) q a c b (inl refl) (off_more c cs q a D.1))
          (update_off (c ∷ cs) r t c b (inl refl) (off_more c cs r t r_off))
          (on b)

  pub due_eq : (a t : Assignment) → Same f (c ∷ cs) a t → due f c cs t ≡ due f c cs a
  due_eq a t S =
      iff_eq (due f c cs t) (due f c cs a)
      (λ h. (due_law f c cs a).1 (due_same t a (same_sym f (c ∷ cs) a t S) ((due_law f c cs t).0 h)))
      (λ h. (due_law f c cs t).1 (due_same a t S ((due_law f c cs a).0 h)))

  same_probe : (a t : Assignment) → Same f (c ∷ cs) a t → Same f cs a (update t c (a c))
  same_probe a t S q r g h o =
      S q r (off_more c cs q a g)
      (λ d k. h d (λ m. k (inr m)) ∙ update_other t c (a c) d (λ e. k (inl e)))
      (λ d. elim [ inl e ↦ rw e (g c n ∙ sym (h c n ∙ update_same t c (a c))) | inr m ↦ o d m ])

  same_pass : (a t : Assignment) → Same f (c ∷ cs) a t → due f c cs t ≡ false → Same f cs a t
  same_pass a t S z q r g h o =
      S q (update r c (q c)) (off_more c cs q a g)
      (update_off (c ∷ cs) r t c (q c) (inl refl) (off_more c cs r t h))
      (λ d. elim [ inl e ↦ rw (e, update_same r c (q c)) | inr m ↦ o d m ∙ sym (update_other r c (q c) d (later_other d m)) ])
      ∙ idle f c cs t z r h (q c)

-- a turn's probe goes to the end of the state
turn_append : (S : Strategy) (a : Assignment) (c : ℕ) (s : State) (b : Bool) → S.probe c s ≡ b → (t : State)
    → turn S a c s ++ t ≡ s ++ keep_if b (c, a c) t
unfolding turn
turn_append S a c s b e t = rw e (go b)
  where
    go : (b : Bool) → cond b (s ++ ((c, a c) ∷ [])) s ++ t ≡ s ++ keep_if b (c, a c) t
    go true = append_assoc s ((c, a c) ∷ []) t
    go false = refl

module _ (f : Formula) (order : List ℕ) (a : Assignment) where
  -- one turn of ours: it probes where the predicate is due on the true assignment, and keeps the invariant
  module _ (c : ℕ) (cs : List ℕ) (s : State) (u : later_than c order ≡ cs) (n : Among c cs → ⊥) (S : Same f (c ∷ cs) a (passed_as_no s)) where
    our_probe : (ours f order).probe c s ≡ due f c cs a
    unfolding ours
    our_probe = rw u (due_eq f c cs n a (passed_as_no s) S)

    same_turn : Same f cs a (passed_as_no (turn (ours f order) a c s))
    unfolding turn ours
    same_turn = rw u (go (due f c cs (passed_as_no s)) refl)
      where
        go : (b : Bool) → due f c cs (passed_as_no s) ≡ b → Same f cs a (passed_as_no (cond b (s ++ ((c, a c) ∷ [])) s))
        go true e = rw (recall_last all_no s c (a c)) (same_probe f c cs n a (passed_as_no s) S)
        go false e = same_pass f c cs n a (passed_as_no s) S e

  ours_from : (cs : List ℕ) (s : State) → Turns order cs → Once cs → Same f cs a (passed_as_no s)
      → (final_state_from (ours f order) a cs s ≡ s ++ trace f a cs) × (f (passed_as_no (final_state_from (ours f order) a cs s)) ≡ f a)
  unfolding final_state_from trace
  ours_from [] s u o S = (sym (append-nil s), sym (S a (passed_as_no s) (λ d k. refl) (λ d k. refl) (λ d m. absurd m)))
  ours_from (c ∷ cs) s u o S =
      let ih = ours_from cs (turn (ours f order) a c s) u.1 o.1 (same_turn c cs s u.0 o.0 S) in
      (ih.0 ∙ turn_append (ours f order) a c s (due f c cs a) (our_probe c cs s u.0 o.0 S) (trace f a cs), ih.1)

  -- the two starts: the formula reads nothing but the order's predicates, or the others are no
  start_reads : ReadsOnly f order → Same f order a all_no
  start_reads v q r g h o = v q r o

  start_fixed : AgreeOff order a all_no → Same f order a all_no
  start_fixed z q r g h o = ap f (fun_ext (λ d. go d (among? d order)))
    where
      go : (d : ℕ) → Among d order ⊎ (Among d order → ⊥) → q d ≡ r d
      go d (inl m) = o d m
      go d (inr k) = g d k ∙ z d k ∙ sym (h d k)

  module _ (o : Once order) where
    both_of : Same f order a all_no → (final_state (ours f order) a order ≡ trace f a order) × (answer_of (ours f order) a order ≡ f a)
    unfolding ours recall
    both_of S = ours_from order [] (turns order o) o S

-- OURS IS A STRATEGY: on every assignment its probes, with their outcomes and in the order's sequence, are those of demand 2
pub ours_trace : (f : Formula) (order : List ℕ) → Once order → ReadsOnly f order → (a : Assignment) → final_state (ours f order) a order ≡ trace f a order
ours_trace f order o v a = (both_of f order a o (start_reads f order a v)).0

-- AND RIGHT: its answer is the formula's value on every assignment
pub ours_right : (f : Formula) (order : List ℕ) → Once order → ReadsOnly f order → Right f order (ours f order)
ours_right f order o v a = (both_of f order a o (start_reads f order a v)).1

-- both for an order that leaves predicates out, those being no
pub ours_trace_fixing : (f : Formula) (order : List ℕ) → Once order → (a : Assignment) → AgreeOff order a all_no → final_state (ours f order) a order ≡ trace f a order
ours_trace_fixing f order o a z = (both_of f order a o (start_fixed f order a z)).0

pub ours_right_fixing : (f : Formula) (order : List ℕ) → Once order → RightFixing all_no f order (ours f order)
ours_right_fixing f order o a z = (both_of f order a o (start_fixed f order a z)).1

-- what ours does, whatever it has seen
pub ours_rule : (f : Formula) (order : List ℕ) (s : State)
    → ((c : ℕ) → ((ours f order).probe c s ≡ true) ↔ Due f c (later_than c order) (passed_as_no s)) × ((ours f order).answer s ≡ f (passed_as_no s))
unfolding ours
ours_rule f order s = (λ c. due_law f c (later_than c order) (passed_as_no s), refl)
