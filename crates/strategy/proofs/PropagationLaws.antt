-- Propagation through the enclosing groups leaves what `settle` says.
use Rattle.std.specs.Prelude.{ℕ, ◌+◌, ◌≤◌, ◌<◌, ◌≡◌, refl, Bool, true, false, not, cond, ◌⊎◌, List, [], ◌∷◌, ◌++◌, ltb}
use Rattle.std.proofs.Common.{arith, sym, ap, ◌∙◌, inl, inr}
use Rattle.bools.specs.Bools.{which, clash, not_of_true, ltb_lt, ltb_le}
use Rattle.strategy.specs.Tree.{Tree, leaf, group, Forest, none, more, settles, size, sizes, InSpan}
use Rattle.strategy.proofs.TreeLaws.{settles_yes, settles_no}
use Rattle.strategy.specs.Live.{Live, Step, in_span, without, meets, leaf_step, through, settle, settle_in}
use Rattle.strategy.proofs.LiveLaws.{without_in, meets_none, through_settles, through_asks, through_stopped}
use Rattle.strategy.specs.Propagation.{Ancestor, enclosing, enclosing_in, propagate}

-- a propagation that has stopped stays as it is
pub propagate_stopped : (v : Bool) (gs : List Ancestor) (s : Step) → s.settled ≡ false → propagate v gs s ≡ s
unfolding propagate
propagate_stopped v [] s h = refl
propagate_stopped v (g ∷ gs) s h = rw (through_stopped g.settling v g.first g.count s h) (propagate_stopped v gs s h)

propagate_append : (v : Bool) (gs hs : List Ancestor) (s : Step) → propagate v (gs ++ hs) s ≡ propagate v hs (propagate v gs s)
unfolding propagate
propagate_append v [] hs s = refl
propagate_append v (g ∷ gs) hs s = propagate_append v gs hs (through g.settling v g.first g.count s)

mutual
  unfolding settle enclosing size propagate

  pub propagate_settle : (t : Tree ℕ) (i c : ℕ) → InSpan i (size t) c → (v : Bool) (live : Live)
      → propagate v (enclosing t i c) (leaf_step c live) ≡ settle t i c v live
  propagate_settle (leaf d) i c r v live = refl
  propagate_settle (group k f) i c r v live =
      propagate_append v (enclosing_in f i c) (record { settling = k; first = i; count = sizes f } ∷ []) (leaf_step c live)
      ∙ ap (λ s. through k v i (sizes f) s) (propagates_settle f i c r v live)

  propagates_settle : (f : Forest ℕ) (i c : ℕ) → InSpan i (sizes f) c → (v : Bool) (live : Live)
      → propagate v (enclosing_in f i c) (leaf_step c live) ≡ settle_in f i c v live
  propagates_settle none i c r v live = absurd (omega arith)
  propagates_settle (more t f) i c r v live =
      let go : (ltb c (i + size t) ≡ true) ⊎ (ltb c (i + size t) ≡ false)
      → propagate v (cond (ltb c (i + size t)) (enclosing t i c) (enclosing_in f (i + size t) c)) (leaf_step c live)
      ≡ cond (ltb c (i + size t)) (settle t i c v live) (settle_in f (i + size t) c v live)
      = elim [
        | inl e ↦ (let l : c < i + size t = ltb_lt c (i + size t) e in rw e (propagate_settle t i c (omega arith) v live))
        | inr e ↦ (let l : i + size t ≤ c = ltb_le c (i + size t) e in rw e (propagates_settle f (i + size t) c (omega arith) v live))
      ] in
      go (which (ltb c (i + size t)))

-- a propagation that passed a group has left nothing of it live
through_empties : (k v : Bool) (i n : ℕ) (s : Step) → (through k v i n s).settled ≡ true → (d : ℕ) → InSpan i n d → (through k v i n s).live d ≡ false
through_empties k v i n s e d r = go (which s.settled) (which (settles k v))
  where
    go : (s.settled ≡ true) ⊎ (s.settled ≡ false) → (settles k v ≡ true) ⊎ (settles k v ≡ false) → (through k v i n s).live d ≡ false
    go (inr f) w = clash (ap (λ (x : Step). x.settled) (sym (through_stopped k v i n s f)) ∙ e) f
    go (inl f) (inl w) = ap (λ (x : Step). x.live d) (through_settles k v i n s f (settles_yes k v w)) ∙ without_in i n d s.live r
    go (inl f) (inr w) =
        let t = through_asks k v i n s f (settles_no k v w) in
        ap (λ (x : Step). x.live d) t ∙ meets_none i n s.live (not_of_true (meets i n s.live) (ap (λ (x : Step). x.settled) (sym t) ∙ e)) d r

-- past the outermost group nothing of the tree is live
pub propagate_empties : (t : Tree ℕ) (c : ℕ) (v : Bool) (live : Live) → c < size t → (propagate v (enclosing t 0 c) (leaf_step c live)).settled ≡ true
    → (d : ℕ) → d < size t → (propagate v (enclosing t 0 c) (leaf_step c live)).live d ≡ false
unfolding size enclosing propagate
propagate_empties (leaf x) c v live l e d h = without_in c 1 d live (omega arith)
propagate_empties (group k f) c v live l e d h =
    let q = propagate_append v (enclosing_in f 0 c) (record { settling = k; first = 0; count = sizes f } ∷ []) (leaf_step c live) in
    ap (λ (x : Step). x.live d) q
    ∙ through_empties k v 0 (sizes f) (propagate v (enclosing_in f 0 c) (leaf_step c live)) (ap (λ (x : Step). x.settled) (sym q) ∙ e) d (omega arith)

-- propagation makes nothing live
through_less : (k v : Bool) (i n : ℕ) (s : Step) (d : ℕ) → (through k v i n s).live d ≡ true → s.live d ≡ true
unfolding through without
through_less k v i n s d = go s.settled (settles k v)
  where
    out : (p q : Bool) → cond p false q ≡ true → q ≡ true
    out true q h = clash h refl
    out false q h = h

    go : (p q : Bool) → (cond p (cond q (record { live = without i n s.live; settled = true }) (record { live = s.live; settled = not (meets i n s.live) })) s).live d ≡ true
        → s.live d ≡ true
    go true true h = out (in_span i n d) (s.live d) h
    go true false h = h
    go false q h = h

pub propagate_less : (v : Bool) (gs : List Ancestor) (s : Step) (d : ℕ) → (propagate v gs s).live d ≡ true → s.live d ≡ true
unfolding propagate
propagate_less v [] s d h = h
propagate_less v (g ∷ gs) s d h =
    through_less g.settling v g.first g.count s d (propagate_less v gs (through g.settling v g.first g.count s) d h)
