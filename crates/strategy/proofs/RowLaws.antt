-- A row worked through makes the probes of the trace and is selected by the tree's value.
use Rattle.std.specs.Prelude.{ℕ, ◌+◌, ◌<◌, ◌≡◌, refl, Bool, true, false, ◌&&◌, ◌||◌, ◌⊎◌, length, get_or, drop}
use Rattle.std.proofs.Common.{arith, add-one, sym, ap₂, ◌∙◌, inl, inr, drop-cons}
use Rattle.std.proofs.Math.Path.{ap, fun_ext}
use Rattle.std.proofs.Math.Bool.{and-true, and-false, or-false, or_assoc}
use mathlib.Core.List.{List, [], ◌∷◌}
use Rattle.std.proofs.Math.Dec.{eqb}
use Rattle.bools.specs.Bools.{which, same?}
use Rattle.strategy.specs.Assignment.{Assignment, Among, elem}
use Rattle.strategy.specs.Strategy.{State, predicates}
use Rattle.strategy.specs.Trace.{trace}
use Rattle.strategy.specs.Order.{Order}
use Rattle.strategy.specs.Tree.{Tree, eval, size, Numbered, NonEmpty}
use Rattle.strategy.specs.Live.{Live, Step, without, leaf_step}
use Rattle.strategy.proofs.LiveLaws.{without_in, without_off}
use Rattle.strategy.specs.Propagation.{enclosing, propagate}
use Rattle.strategy.proofs.PropagationLaws.{propagate_stopped, propagate_empties}
use Rattle.strategy.proofs.Walk.{Walk, walk_start, walk_end, walk_pass, walk_probe, walk_last, trace_pass, trace_probe}
use Rattle.strategy.specs.Row.{RowProgress, unworked, asked, after_turn, turn, work}

-- what is not live is taken out of the live set in vain
without_idle : (c : ℕ) (live : Live) → live c ≡ false → without c 1 live ≡ live
without_idle c live h = fun_ext (λ d. go d (same? d c))
  where
    go : (d : ℕ) → (d ≡ c) ⊎ (d ≡ c → ⊥) → without c 1 live d ≡ live d
    go d (inl e) = without_in c 1 d live (omega arith) ∙ sym (ap live e ∙ h)
    go d (inr e) = without_off c 1 d live (λ r. e (omega arith))

-- a turn of what is not live changes nothing
pub turn_idle : (t : Tree ℕ) (a : Assignment) (c : ℕ) (r : RowProgress) → r.live c ≡ false → turn t a c r ≡ r
turn_idle t a c r h =
    ap (λ (s : Step). after_turn c (r.live c && a c) s r) still
    ∙ ap₂ (λ (f : ℕ → Bool) (b : Bool). record { live = r.live; probed = f; selected = b }) (fun_ext kept) (or-false r.selected)
  where
    still : propagate (r.live c && a c) (enclosing t 0 c) (asked c r.live) ≡ record { live = r.live; settled = false }
    still =
        ap (λ (b : Bool). propagate (r.live c && a c) (enclosing t 0 c) (record { live = without c 1 r.live; settled = b })) h
        ∙ propagate_stopped (r.live c && a c) (enclosing t 0 c) (record { live = without c 1 r.live; settled = false }) refl
        ∙ ap (λ (l : Live). record { live = l; settled = false }) (without_idle c r.live h)

    kept : (d : ℕ) → (r.probed d || (eqb d c && r.live c)) ≡ r.probed d
    kept d = ap (λ (b : Bool). r.probed d || b) (ap (λ (b : Bool). eqb d c && b) h ∙ and-false (eqb d c)) ∙ or-false (r.probed d)

pub work_idle : (t : Tree ℕ) (a : Assignment) (cs : List ℕ) (r : RowProgress) → ((c : ℕ) → Among c cs → r.live c ≡ false) → work t a cs r ≡ r
unfolding work
work_idle t a [] r h = refl
work_idle t a (c ∷ cs) r h = ap (work t a cs) (turn_idle t a c r (h c (inl refl))) ∙ work_idle t a cs r (λ d m. h d (inr m))

-- what a row has got by the turns of `cs`
pub record RowWorked (t : Tree ℕ) (a : Assignment) (cs : List ℕ) (before after : RowProgress) : Type 0 where
  pub selects : after.selected ≡ (before.selected || eval t a)
  pub probed_are : (d : ℕ) → after.probed d ≡ (before.probed d || elem d (predicates (trace (eval t) a cs)))

module _ (t : Tree ℕ) (n : Numbered t 0) (a : Assignment) where
  -- a turn of what is live, with its propagation
  module _ (c : ℕ) (r : RowProgress) (h : r.live c ≡ true) (s : Step) (e : propagate (a c) (enclosing t 0 c) (leaf_step c r.live) ≡ s) where
    turn_live : turn t a c r ≡ after_turn c (a c) s r
    turn_live = ap₂ (λ (b v : Bool). after_turn c v (propagate v (enclosing t 0 c) (record { live = without c 1 r.live; settled = b })) r) h (ap (λ (b : Bool). b && a c) h) ∙ ap (λ (x : Step). after_turn c (a c) x r) e

    probed_more : (s' : State) (d : ℕ) → ((r.probed d || (eqb d c && r.live c)) || elem d (predicates s')) ≡ (r.probed d || elem d (predicates ((c, a c) ∷ s')))
    unfolding elem predicates
    probed_more s' d =
        ap (λ (b : Bool). (r.probed d || b) || elem d (predicates s')) (ap (λ (b : Bool). eqb d c && b) h ∙ and-true (eqb d c))
        ∙ or_assoc (r.probed d) (eqb d c) (elem d (predicates s'))

  pub work_live : (cs : List ℕ) (r : RowProgress) → Walk t a cs r.live → RowWorked t a cs r (work t a cs r)
  unfolding work elem predicates
  work_live [] r W = absurd (walk_end t a r.live W)
  work_live (c ∷ cs) r W = go (which (r.live c)) (which s.settled) (λ x X. work_live cs x X)
    where
      s : Step
      s = propagate (a c) (enclosing t 0 c) (leaf_step c r.live)

      go : (r.live c ≡ true) ⊎ (r.live c ≡ false) → (s.settled ≡ true) ⊎ (s.settled ≡ false)
          → ((x : RowProgress) → Walk t a cs x.live → RowWorked t a cs x (work t a cs x)) → RowWorked t a (c ∷ cs) r (work t a cs (turn t a c r))
      go (inr h) q ih =
          let w = ih r (walk_pass t n a c cs r.live W h) in
          rw (turn_idle t a c r h) (record { selects = w.selects; probed_are = λ d. rw (trace_pass t n a c cs r.live W h) (w.probed_are d) })
      go (inl h) (inr q) ih =
          let w = ih (after_turn c (a c) s r) (walk_probe t n a c cs r.live W h s refl q) in
          rw (turn_live c r h s refl)
          (record {
            selects = w.selects ∙ ap (λ (b : Bool). (r.selected || (b && a c)) || eval t a) q ∙ ap (λ (b : Bool). b || eval t a) (or-false r.selected);
            probed_are = λ d. w.probed_are d ∙ probed_more c r h s refl (trace (eval t) a cs) d ∙ rw (trace_probe t n a c cs r.live W h);
          })
      go (inl h) (inl q) ih =
          let l = walk_last t n a c cs r.live W h s refl q in
          let idle : work t a cs (after_turn c (a c) s r) ≡ after_turn c (a c) s r
          = work_idle t a cs (after_turn c (a c) s r) (λ d m. propagate_empties t c (a c) r.live (W.inside c (inl refl)) q d (W.inside d (inr m))) in
          rw (turn_live c r h s refl, idle)
          (record {
            selects = ap (λ (b : Bool). r.selected || (b && a c)) q ∙ ap (λ (b : Bool). r.selected || b) l.0;
            probed_are = λ d. sym (or-false (r.probed d || (eqb d c && r.live c))) ∙ probed_more c r h s refl [] d
                ∙ rw (trace_probe t n a c cs r.live W h, l.1);
          })

  -- THE ROW: where it takes part, all predicates live, it is selected by the tree's value and its probes are those of the trace
  pub work_row : NonEmpty t → (order : List ℕ) → Order (size t) order → (start : Live) → ((c : ℕ) → c < size t → start c ≡ true) → (part : Bool)
      → ((work t a order (unworked start part)).selected ≡ (part && eval t a))
      × ((d : ℕ) → (work t a order (unworked start part)).probed d ≡ (part && elem d (predicates (trace (eval t) a order))))
  work_row u order O start all true =
      let w = work_live order (unworked start true) (walk_start t n u a order O (λ c. start c && true) (λ d l. ap (λ (b : Bool). b && true) (all d l))) in
      (w.selects, w.probed_are)
  work_row u order O start all false =
      let idle = work_idle t a order (unworked start false) (λ c m. and-false (start c)) in
      (ap (λ (r : RowProgress). r.selected) idle, λ d. ap (λ (r : RowProgress). r.probed d) idle)

-- the turn of place i, and the turns after it
pub work_place : (t : Tree ℕ) (a : Assignment) (order : List ℕ) (i : ℕ) (r : RowProgress) → i < length order
    → work t a (drop i order) r ≡ work t a (drop (i + 1) order) (turn t a (get_or order i 0) r)
unfolding work
work_place t a order i r h = rw (add-one, drop-cons order i 0)
