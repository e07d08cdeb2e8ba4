-- The state of a row between two turns, as an invariant, and each thing that a turn can do to it.
use Rattle.std.specs.Prelude.{ℕ, ◌<◌, ◌≡◌, refl, Bool, true, false, ◌&&◌, not, ◌⊎◌, List, [], ◌∷◌}
use Rattle.std.proofs.Common.{arith, sym, ap, ◌∙◌, subst, true≢false, inl, inr}
use Rattle.std.proofs.Math.Path.{fun_ext}
use Rattle.bools.specs.Bools.{clash, not_self, same?}
use Rattle.strategy.specs.Assignment.{Assignment, Among, Once, AgreeOff}
use Rattle.strategy.proofs.AssignmentLaws.{among?}
use Rattle.strategy.specs.Trace.{due, trace}
use Rattle.strategy.proofs.DueLaws.{due_passed}
use Rattle.strategy.proofs.Turns.{trace_settled}
use Rattle.strategy.specs.Order.{Order}
use Rattle.strategy.specs.Tree.{Tree, eval, size, Numbered, NonEmpty, InSpan}
use Rattle.strategy.proofs.TreeLaws.{eval_toward, eval_span}
use Rattle.strategy.specs.Alone.{unseen, seen, hide, is_unseen, status_as, unseen_as, alone}
use Rattle.strategy.proofs.AloneLaws.{hide_in, hide_off, due_alone}
use Rattle.strategy.proofs.PartialLaws.{see, see_hide, SameIn, alone_same, alone_either, either_alone, nothing_seen, first_either, first_alone}
use Rattle.strategy.specs.Live.{Live, Step, leaf_step, settle}
use Rattle.strategy.proofs.SettleLaws.{LiveAlone, TreeAfter, settle_after}
use Rattle.strategy.specs.Propagation.{enclosing, propagate}
use Rattle.strategy.proofs.PropagationLaws.{propagate_settle}

-- `live` is right for the turns of `cs` to come, and the tree can still come to either value
pub record Walk (t : Tree ℕ) (a : Assignment) (cs : List ℕ) (live : Live) : Type 0 where
  pub holds : LiveAlone 0 (size t) (λ d. alone t d (hide cs a)) (hide cs a) live
  pub unsettled : (v : Bool) → eval t (unseen_as v (hide cs a)) ≡ v
  pub once : Once cs
  pub inside : (d : ℕ) → Among d cs → d < size t

-- at the start all predicates are live
pub walk_start : (t : Tree ℕ) → Numbered t 0 → NonEmpty t → (a : Assignment) (order : List ℕ) → Order (size t) order
    → (live : Live) → ((d : ℕ) → d < size t → live d ≡ true) → Walk t a order live
walk_start t n u a order O live h = record {
  holds = λ d j. h d (omega arith) ∙ sym (rw (hide_in order a d (O.every d (omega arith)), sym (alone_same t 0 n d nothing_seen (hide order a) same)) (first_alone t 0 n u d j));
  unsettled = λ v. sym (eval_span t 0 n (unseen_as v nothing_seen) (unseen_as v (hide order a)) (λ d j. ap (status_as v) (same d j))) ∙ first_either t u v;
  once = O.once;
  inside = O.inside;
}
  where
    same : SameIn 0 (size t) nothing_seen (hide order a)
    same d j = sym (hide_in order a d (O.every d (omega arith)))

-- after the last turn something has been settled: this state does not come up
pub walk_end : (t : Tree ℕ) (a : Assignment) (live : Live) → Walk t a [] live → ⊥
walk_end t a live W = true≢false (sym (W.unsettled true) ∙ ap (eval t) (all_seen true ∙ sym (all_seen false)) ∙ W.unsettled false)
  where
    all_seen : (v : Bool) → unseen_as v (hide [] a) ≡ a
    all_seen v = fun_ext (λ d. ap (status_as v) (hide_off [] a d (λ m. m)))

-- a listed predicate is due, with the list to come, just where it is alone
due_hidden : (t : Tree ℕ) → Numbered t 0 → (a : Assignment) (l : List ℕ) (d : ℕ) → Among d l → due (eval t) d l a ≡ alone t d (hide l a)
due_hidden t n a l d m = due_alone t d l a 0 n ∙ ap (alone t d) (fun_ext (λ x. go x (among? x l)))
  where
    go : (x : ℕ) → Among x l ⊎ (Among x l → ⊥) → hide (d ∷ l) a x ≡ hide l a x
    go x (inl k) = hide_in (d ∷ l) a x (inr k) ∙ sym (hide_in l a x k)
    go x (inr k) = hide_off (d ∷ l) a x (elim [ inl e ↦ k (subst (λ y. Among y l) (sym e) m) | inr j ↦ k j ]) ∙ sym (hide_off l a x k)

hidden_among : (l : List ℕ) (a : Assignment) (d : ℕ) → hide l a d ≡ unseen → Among d l
hidden_among l a d e = go (among? d l)
  where
    go : Among d l ⊎ (Among d l → ⊥) → Among d l
    go (inl m) = m
    go (inr k) = let z : seen (a d) ≡ unseen = sym (hide_off l a d k) ∙ e in (let w : ◌≡◌ {A = ℕ} 0 1 = cc in absurd (omega arith))

-- where the value is settled, whatever is unseen, it is the value on each assignment that agrees with what is seen
settled_value : (t : Tree ℕ) (cs : List ℕ) (a : Assignment) (v : Bool) → ((w : Bool) → eval t (unseen_as w (hide cs a)) ≡ v)
    → (q : Assignment) → AgreeOff cs q a → eval t q ≡ v
settled_value t cs a v h q g = eval_toward t v (unseen_as (not v) (hide cs a)) q (λ d. go d (among? d cs)) (h (not v))
  where
    go : (d : ℕ) → Among d cs ⊎ (Among d cs → ⊥) → status_as (not v) (hide cs a d) ≡ v → q d ≡ v
    go d (inl m) e = absurd (not_self v (sym (rw (hide_in cs a d m) at e)))
    go d (inr k) e = g d k ∙ (rw (hide_off cs a d k) at e)

module _ (t : Tree ℕ) (n : Numbered t 0) (a : Assignment) (c : ℕ) (cs : List ℕ) (live : Live) (W : Walk t a (c ∷ cs) live) where
  ci : InSpan 0 (size t) c
  ci = let l = W.inside c (inl refl) in omega arith

  hidden : hide (c ∷ cs) a c ≡ unseen
  hidden = hide_in (c ∷ cs) a c (inl refl)

  live_alone : live c ≡ alone t c (hide (c ∷ cs) a)
  live_alone = W.holds c ci ∙ rw hidden

  rest : (d : ℕ) → Among d cs → d < size t
  rest d m = W.inside d (inr m)

  -- C IS DUE EXACTLY IF IT IS LIVE
  pub walk_due : live c ≡ due (eval t) c cs a
  walk_due = live_alone ∙ sym (due_alone t c cs a 0 n)

  -- passed
  module _ (h : live c ≡ false) where
    pub trace_pass : trace (eval t) a (c ∷ cs) ≡ trace (eval t) a cs
    unfolding trace
    trace_pass = rw (sym walk_due ∙ h)

    still : (d : ℕ) → Among d cs → alone t d (hide (c ∷ cs) a) ≡ alone t d (hide cs a)
    still d m =
        sym (due_hidden t n a (c ∷ cs) d (inr m))
        ∙ due_passed (eval t) c cs a W.once.0 (sym walk_due ∙ h) d m
        ∙ due_hidden t n a cs d m

    pub walk_pass : Walk t a cs live
    walk_pass = record { holds = λ d j. at d j (among? d cs) (same? d c); unsettled = open_still; once = W.once.1; inside = rest }
      where
        at : (d : ℕ) → InSpan 0 (size t) d → Among d cs ⊎ (Among d cs → ⊥) → (d ≡ c) ⊎ (d ≡ c → ⊥) → live d ≡ (is_unseen (hide cs a d) && alone t d (hide cs a))
        at d j (inl m) e = W.holds d j ∙ rw (hide_in (c ∷ cs) a d (inr m), hide_in cs a d m) (still d m)
        at d j (inr k) (inl e) = ap live e ∙ h ∙ sym (rw (hide_off cs a d k))
        at d j (inr k) (inr e) = W.holds d j ∙ rw (hide_off (c ∷ cs) a d (elim [ inl y ↦ e y | inr y ↦ k y ]), hide_off cs a d k)

        open_still : (v : Bool) → eval t (unseen_as v (hide cs a)) ≡ v
        open_still =
            let x = either_alone t 0 n (hide (c ∷ cs) a) W.unsettled in
            go x.0 x.3 (hidden_among (c ∷ cs) a x.0 x.2)
          where
            go : (d : ℕ) → alone t d (hide (c ∷ cs) a) ≡ true → Among d (c ∷ cs) → (v : Bool) → eval t (unseen_as v (hide cs a)) ≡ v
            go d y (inl e) = clash y (ap (λ z. alone t z (hide (c ∷ cs) a)) e ∙ sym live_alone ∙ h)
            go d y (inr m) = alone_either t d (hide cs a) (hide_in cs a d m) (sym (still d m) ∙ y)

  -- probed, and the propagation gives `s`
  module _ (h : live c ≡ true) where
    pub trace_probe : trace (eval t) a (c ∷ cs) ≡ (c, a c) ∷ trace (eval t) a cs
    unfolding trace
    trace_probe = rw (sym walk_due ∙ h)

    module _ (s : Step) (e : propagate (a c) (enclosing t 0 c) (leaf_step c live) ≡ s) where
      after : TreeAfter t 0 (a c) (hide cs a) live s
      after =
          let r : TreeAfter t 0 (a c) (see (hide (c ∷ cs) a) c (a c)) live (settle t 0 c (a c) live)
          = settle_after t 0 n c (a c) (hide (c ∷ cs) a) live hidden (sym live_alone ∙ h) W.holds in
          subst (λ x. TreeAfter t 0 (a c) (hide cs a) live x) (sym (propagate_settle t 0 c ci (a c) live) ∙ e)
          (subst (λ m. TreeAfter t 0 (a c) m live (settle t 0 c (a c) live)) (see_hide c cs a W.once.0) r)

      -- the propagation stopped: the row goes on with what it left
      pub walk_probe : s.settled ≡ false → Walk t a cs s.live
      walk_probe d = record { holds = after.holds; unsettled = after.unsettled d; once = W.once.1; inside = rest }

      -- the propagation passed the root: the outcome is the answer, and nothing more is due
      pub walk_last : s.settled ≡ true → (a c ≡ eval t a) × (trace (eval t) a cs ≡ [])
      walk_last d = (sym (value a (λ x k. refl)), trace_settled (eval t) a cs (a c) value)
        where
          value : (q : Assignment) → AgreeOff cs q a → eval t q ≡ a c
          value = settled_value t cs a (a c) (after.settled d)
