-- What a probe does to a tree: the live set goes on being the unseen predicates that are alone.
use Rattle.std.specs.Prelude.{ℕ, ◌+◌, ◌≤◌, ◌<◌, ◌≡◌, Bool, false, ◌&&◌, cond, ◌⊎◌, ltb}
use Rattle.std.proofs.Common.{arith, ap₂, ◌∙◌, subst, inl, inr}
use Rattle.std.proofs.Math.Path.{refl, sym, ap}
use Rattle.std.proofs.Math.Bool.{true, not}
use Rattle.bools.specs.Bools.{which, clash, not_true, iff_eq, each, self_or_not, not_self, not_of_true, not_of_false, and_parts, eqb_eq, ltb_yes, ltb_no, ltb_lt, ltb_le}
use Rattle.strategy.specs.Tree.{Tree, leaf, group, Forest, none, more, eval, evals, size, sizes, Numbered, Numbereds, InSpan}
use Rattle.strategy.proofs.TreeLaws.{join_unit_left, join_left, join_right, Toward, evals_toward, eval_span, evals_span}
use Rattle.strategy.specs.Alone.{Status, unseen, seen, Partial, is_unseen, status_as, unseen_as, alone, alone_in}
use Rattle.strategy.proofs.AloneLaws.{Either, alone_places, alone_at, alone_span, alone_in_span}
use Rattle.strategy.proofs.PartialLaws.{see, see_same, see_other, SameIn, alone_same, alone_in_same, alone_either, alone_in_either, eithers_alone, unseen_of}
use Rattle.strategy.specs.Live.{Live, meets, Step, through, settle, settle_in}
use Rattle.strategy.proofs.LiveLaws.{without_in, without_off, meets_gives, meets_none, through_settles, through_asks, through_stopped}

-- THE INVARIANT: of a span just the unseen predicates that are alone are live
abbrev pub LiveAlone : ℕ → ℕ → (ℕ → Bool) → Partial → Live → Type 0
LiveAlone i n A m live = (d : ℕ) → InSpan i n d → live d ≡ (is_unseen (m d) && A d)

-- what a probe with the outcome `v` does to a tree: all seen that is needed for the value `v`, or either value still possible
pub record TreeAfter (t : Tree ℕ) (i : ℕ) (v : Bool) (m : Partial) (live : Live) (s : Step) : Type 0 where
  pub off : (d : ℕ) → (InSpan i (size t) d → ⊥) → s.live d ≡ live d
  pub holds : LiveAlone i (size t) (λ d. alone t d m) m s.live
  pub settled : s.settled ≡ true → (w : Bool) → eval t (unseen_as w m) ≡ v
  pub unsettled : s.settled ≡ false → (w : Bool) → eval t (unseen_as w m) ≡ w

-- what it does to a group's members: the group may still go on, or `v` has settled it
record Going (f : Forest ℕ) (k : Bool) (i : ℕ) (v : Bool) (m : Partial) (s : Step) : Type 0 where
  free : evals f k (unseen_as (not k) m) ≡ not k
  holds : LiveAlone i (sizes f) (λ d. alone_in f k d m) m s.live
  settled : s.settled ≡ true → v ≡ not k
  unsettled : s.settled ≡ false → evals f k (unseen_as k m) ≡ k

record Stopped (f : Forest ℕ) (k : Bool) (v : Bool) (m : Partial) (s : Step) : Type 0 where
  member : s.settled ≡ true
  settling : v ≡ k
  stops : evals f k (unseen_as (not k) m) ≡ k

record ForestAfter (f : Forest ℕ) (k : Bool) (i : ℕ) (v : Bool) (m : Partial) (live : Live) (s : Step) : Type 0 where
  off : (d : ℕ) → (InSpan i (sizes f) d → ⊥) → s.live d ≡ live d
  after : Going f k i v m s ⊎ Stopped f k v m s

-- the more that is taken as `w`, the more a tree comes to it
unseen_as_toward : (w : Bool) (m : Partial) → Toward w (unseen_as (not w) m) (unseen_as w m)
unseen_as_toward w m d h = go (m d) h
  where
    go : (x : Status) → status_as (not w) x ≡ w → status_as w x ≡ w
    go unseen e = refl
    go (seen b) e = e

-- one group: from what the probe did to the members to what it did to the group
module _ (f : Forest ℕ) (k : Bool) (i : ℕ) (n : Numbereds f i) (v : Bool) (m : Partial) (live : Live) (s : Step)
    (off : (d : ℕ) → (InSpan i (sizes f) d → ⊥) → s.live d ≡ live d) where
  group_stopped : Stopped f k v m s → TreeAfter (group k f) i v m live (through k v i (sizes f) s)
  unfolding eval alone size
  group_stopped st = rw (through_settles k v i (sizes f) s st.member st.settling) (record {
    off = λ d r. without_off i (sizes f) d s.live r ∙ off d r;
    holds = λ d r. without_in i (sizes f) d s.live r ∙ sym (not_true (is_unseen (m d) && alone_in f k d m) (never d));
    settled = λ _. each (λ w. evals f k (unseen_as w m) ≡ v) k
        (evals_toward f k k (unseen_as (not k) m) (unseen_as k m) (unseen_as_toward k m) st.stops ∙ sym st.settling)
        (st.stops ∙ sym st.settling);
    unsettled = λ e. clash refl e;
  })
    where
      never : (d : ℕ) → (is_unseen (m d) && alone_in f k d m) ≡ true → ⊥
      never d h =
          let hs = and_parts (is_unseen (m d)) (alone_in f k d m) h in
          not_self k (sym st.stops ∙ alone_in_either f k d m (unseen_of (m d) hs.0) hs.1 (not k))

  group_going : Going f k i v m s → TreeAfter (group k f) i v m live (through k v i (sizes f) s)
  unfolding eval alone size
  group_going g = go (which s.settled)
    where
      -- nothing live in the group: its value is `not k` whatever the unseen outcomes
      none_live : ((d : ℕ) → InSpan i (sizes f) d → s.live d ≡ false) → evals f k (unseen_as k m) ≡ not k
      none_live z = at (self_or_not k (evals f k (unseen_as k m)))
        where
          at : (evals f k (unseen_as k m) ≡ k) ⊎ (evals f k (unseen_as k m) ≡ not k) → evals f k (unseen_as k m) ≡ not k
          at (inl e) =
              let r = eithers_alone f k i n m (each (λ w. evals f k (unseen_as w m) ≡ w) k e g.free) in
              clash (g.holds r.0 r.1 ∙ rw r.2 r.3) (z r.0 r.1)
          at (inr e) = e

      one_live : meets i (sizes f) s.live ≡ true → (w : Bool) → evals f k (unseen_as w m) ≡ w
      one_live h =
          let r = meets_gives i (sizes f) s.live h in
          let hs = and_parts (is_unseen (m r.0)) (alone_in f k r.0 m) (sym (g.holds r.0 r.1) ∙ r.2) in
          alone_in_either f k r.0 m (unseen_of (m r.0) hs.0) hs.1

      go : (s.settled ≡ true) ⊎ (s.settled ≡ false) → TreeAfter (group k f) i v m live (through k v i (sizes f) s)
      go (inl d) = rw (through_asks k v i (sizes f) s d (g.settled d)) (record {
        off = off;
        holds = g.holds;
        settled = λ e. each (λ w. evals f k (unseen_as w m) ≡ v) k
            (none_live (meets_none i (sizes f) s.live (not_of_true (meets i (sizes f) s.live) e)) ∙ sym (g.settled d))
            (g.free ∙ sym (g.settled d));
        unsettled = λ e. one_live (not_of_false (meets i (sizes f) s.live) e);
      })
      go (inr d) = rw (through_stopped k v i (sizes f) s d) (record {
        off = off;
        holds = g.holds;
        settled = λ e. clash e d;
        unsettled = λ e. each (λ w. evals f k (unseen_as w m) ≡ w) k (g.unsettled d) g.free;
      })

-- a part of the tree where nothing was probed keeps its invariant
holds_keep : (i n : ℕ) (A A' : ℕ → Bool) (m m' : Partial) (live live' : Live) → SameIn i n m m' → ((d : ℕ) → InSpan i n d → A d ≡ A' d)
    → ((d : ℕ) → InSpan i n d → live' d ≡ live d) → LiveAlone i n A m live → LiveAlone i n A' m' live'
holds_keep i n A A' m m' live live' p q r h d j = r d j ∙ h d j ∙ ap₂ (λ x y. is_unseen x && y) (p d j) (q d j)

see_off : (i n : ℕ) (m : Partial) (c : ℕ) (v : Bool) → (InSpan i n c → ⊥) → SameIn i n m (see m c v)
see_off i n m c v r d j = sym (see_other m c v d (λ e. r (subst (λ x. InSpan i n x) e j)))

module _ (t : Tree ℕ) (f : Forest ℕ) (k : Bool) (i : ℕ) (n : Numbereds (more t f) i) where
  -- in a group whose other members are not settled, alone in the member is alone in the group
  module _ (d : ℕ) (m : Partial) where
    alone_in_low : d < i + size t → evals f k (unseen_as (not k) m) ≡ not k → alone_in (more t f) k d m ≡ alone t d m
    unfolding Either
    alone_in_low l e = iff_eq (alone_in (more t f) k d m) (alone t d m) (λ h. go (alone_places t f k d m h)) (λ h. alone_at t f k d m (inl (h, e)))
      where
        go : Either t f k d m → alone t d m ≡ true
        go (inl w) = w.0
        go (inr w) = let r = alone_in_span f k (i + size t) n.1 d m w.1 in absurd (omega arith)

    alone_in_high : i + size t ≤ d → eval t (unseen_as (not k) m) ≡ not k → alone_in (more t f) k d m ≡ alone_in f k d m
    unfolding Either
    alone_in_high l e = iff_eq (alone_in (more t f) k d m) (alone_in f k d m) (λ h. go (alone_places t f k d m h)) (λ h. alone_at t f k d m (inr (e, h)))
      where
        go : Either t f k d m → alone_in f k d m ≡ true
        go (inl w) = let r = alone_span t i n.0 d m w.0 in absurd (omega arith)
        go (inr w) = w.1

  abbrev HoldsFirst : Partial → Live → Type 0
  HoldsFirst m live = LiveAlone i (size t) (λ d. alone t d m) m live

  abbrev HoldsOthers : Partial → Live → Type 0
  HoldsOthers m live = LiveAlone (i + size t) (sizes f) (λ d. alone_in f k d m) m live

  abbrev HoldsBoth : Partial → Live → Type 0
  HoldsBoth m live = LiveAlone i (sizes (more t f)) (λ d. alone_in (more t f) k d m) m live

  module _ (m : Partial) (live : Live) where
    holds_first : evals f k (unseen_as (not k) m) ≡ not k → HoldsBoth m live → HoldsFirst m live
    unfolding size
    holds_first e h d r = h d (omega arith) ∙ ap (λ y. is_unseen (m d) && y) (alone_in_low d m r.1 e)

    holds_others : eval t (unseen_as (not k) m) ≡ not k → HoldsBoth m live → HoldsOthers m live
    unfolding size
    holds_others e h d r = h d (omega arith) ∙ ap (λ y. is_unseen (m d) && y) (alone_in_high d m r.0 e)

    holds_both : eval t (unseen_as (not k) m) ≡ not k → evals f k (unseen_as (not k) m) ≡ not k → HoldsFirst m live → HoldsOthers m live → HoldsBoth m live
    unfolding size
    holds_both T F g h d r = go (which (ltb d (i + size t)))
      where
        go : (ltb d (i + size t) ≡ true) ⊎ (ltb d (i + size t) ≡ false) → live d ≡ (is_unseen (m d) && alone_in (more t f) k d m)
        go (inl e) = let l : d < i + size t = ltb_lt d (i + size t) e in
            g d (omega arith) ∙ ap (λ y. is_unseen (m d) && y) (sym (alone_in_low d m l F))
        go (inr e) = let l : i + size t ≤ d = ltb_le d (i + size t) e in
            h d (omega arith) ∙ ap (λ y. is_unseen (m d) && y) (sym (alone_in_high d m l T))

  module _ (c : ℕ) (v : Bool) (m : Partial) (live : Live) (s : Step) (u : m c ≡ unseen) (h : HoldsBoth m live) where
    -- the probe was in the first member
    after_first : alone t c m ≡ true → evals f k (unseen_as (not k) m) ≡ not k → TreeAfter t i v (see m c v) live s → ForestAfter (more t f) k i v (see m c v) live s
    unfolding size eval
    after_first al F r = record { off = λ d j. r.off d (λ l. j (omega arith)); after = go (which s.settled) }
      where
        ci : InSpan i (size t) c
        ci = alone_span t i n.0 c m al

        same : SameIn (i + size t) (sizes f) m (see m c v)
        same = see_off (i + size t) (sizes f) m c v (λ j. omega (arith, ci))

        F' : evals f k (unseen_as (not k) (see m c v)) ≡ not k
        F' = sym (evals_span f k (i + size t) n.1 (unseen_as (not k) m) (unseen_as (not k) (see m c v)) (λ d j. ap (status_as (not k)) (same d j))) ∙ F

        others : HoldsOthers (see m c v) s.live
        others = holds_keep (i + size t) (sizes f) (λ d. alone_in f k d m) (λ d. alone_in f k d (see m c v)) m (see m c v) live s.live same
            (λ d j. alone_in_same f k (i + size t) n.1 d m (see m c v) same) (λ d j. r.off d (λ l. omega arith))
            (holds_others m live (alone_either t c m u al (not k)) h)

        going : eval t (unseen_as (not k) (see m c v)) ≡ not k → (s.settled ≡ true → v ≡ not k) → Going (more t f) k i v (see m c v) s
        going T' st = record {
          free = rw (T', F') (join_unit_left k (not k));
          holds = holds_both (see m c v) s.live T' F' r.holds others;
          settled = st;
          unsettled = λ e. join_left k (eval t (unseen_as k (see m c v))) (evals f k (unseen_as k (see m c v))) (r.unsettled e k);
        }

        go : (s.settled ≡ true) ⊎ (s.settled ≡ false) → Going (more t f) k i v (see m c v) s ⊎ Stopped (more t f) k v (see m c v) s
        go (inr e) = inl (going (r.unsettled e (not k)) (λ x. clash x e))
        go (inl e) = at (self_or_not k v)
          where
            at : (v ≡ k) ⊎ (v ≡ not k) → Going (more t f) k i v (see m c v) s ⊎ Stopped (more t f) k v (see m c v) s
            at (inl x) = inr (record { member = e; settling = x; stops = join_left k (eval t (unseen_as (not k) (see m c v))) (evals f k (unseen_as (not k) (see m c v))) (r.settled e (not k) ∙ x) })
            at (inr x) = inl (going (r.settled e (not k) ∙ x) (λ _. x))

    -- the probe was in another member
    after_others : eval t (unseen_as (not k) m) ≡ not k → alone_in f k c m ≡ true → ForestAfter f k (i + size t) v (see m c v) live s → ForestAfter (more t f) k i v (see m c v) live s
    unfolding size eval
    after_others T al r = record { off = λ d j. r.off d (λ l. j (omega arith)); after = go r.after }
      where
        ci : InSpan (i + size t) (sizes f) c
        ci = alone_in_span f k (i + size t) n.1 c m al

        same : SameIn i (size t) m (see m c v)
        same = see_off i (size t) m c v (λ j. omega (arith, ci))

        T' : eval t (unseen_as (not k) (see m c v)) ≡ not k
        T' = sym (eval_span t i n.0 (unseen_as (not k) m) (unseen_as (not k) (see m c v)) (λ d j. ap (status_as (not k)) (same d j))) ∙ T

        first : HoldsFirst (see m c v) s.live
        first = holds_keep i (size t) (λ d. alone t d m) (λ d. alone t d (see m c v)) m (see m c v) live s.live same
            (λ d j. alone_same t i n.0 d m (see m c v) same) (λ d j. r.off d (λ l. omega arith))
            (holds_first m live (alone_in_either f k c m u al (not k)) h)

        go : Going f k (i + size t) v (see m c v) s ⊎ Stopped f k v (see m c v) s → Going (more t f) k i v (see m c v) s ⊎ Stopped (more t f) k v (see m c v) s
        go (inl g) = inl (record {
          free = rw (T', g.free) (join_unit_left k (not k));
          holds = holds_both (see m c v) s.live T' g.free first g.holds;
          settled = g.settled;
          unsettled = λ e. join_right k (eval t (unseen_as k (see m c v))) (evals f k (unseen_as k (see m c v))) (g.unsettled e);
        })
        go (inr g) = inr (record { member = g.member; settling = g.settling; stops = join_right k (eval t (unseen_as (not k) (see m c v))) (evals f k (unseen_as (not k) (see m c v))) g.stops })

-- A PROBE OF A LIVE PREDICATE keeps the invariant and tells whether the tree is settled
mutual
  unfolding settle size alone eval Either

  pub settle_after : (t : Tree ℕ) (i : ℕ) → Numbered t i → (c : ℕ) (v : Bool) (m : Partial) (live : Live) → m c ≡ unseen → alone t c m ≡ true
      → LiveAlone i (size t) (λ d. alone t d m) m live → TreeAfter t i v (see m c v) live (settle t i c v live)
  settle_after (leaf d) i n c v m live u al h =
      let e : d ≡ c = eqb_eq d c al in
      record {
        off = λ x r. without_off c 1 x live (λ j. r (omega arith));
        holds = λ x r. (let y : x ≡ c = omega arith in without_in c 1 x live (omega arith) ∙ rw (y, see_same m c v));
        settled = λ _ w. rw (e, see_same m c v);
        unsettled = λ z. clash refl z;
      }
  settle_after (group k f) i n c v m live u al h =
      let r = settle_in_after f k i n c v m live u al h in
      let go : Going f k i v (see m c v) (settle_in f i c v live) ⊎ Stopped f k v (see m c v) (settle_in f i c v live)
      → TreeAfter (group k f) i v (see m c v) live (through k v i (sizes f) (settle_in f i c v live))
      = elim [
        | inl g ↦ group_going f k i n v (see m c v) live (settle_in f i c v live) r.off g
        | inr g ↦ group_stopped f k i n v (see m c v) live (settle_in f i c v live) r.off g
      ] in
      go r.after

  settle_in_after : (f : Forest ℕ) (k : Bool) (i : ℕ) → Numbereds f i → (c : ℕ) (v : Bool) (m : Partial) (live : Live) → m c ≡ unseen → alone_in f k c m ≡ true
      → LiveAlone i (sizes f) (λ d. alone_in f k d m) m live → ForestAfter f k i v (see m c v) live (settle_in f i c v live)
  settle_in_after none k i n c v m live u al h = clash al refl
  settle_in_after (more t f) k i n c v m live u al h =
      let go : Either t f k c m → ForestAfter (more t f) k i v (see m c v) live (cond (ltb c (i + size t)) (settle t i c v live) (settle_in f (i + size t) c v live))
      = elim [
        | inl w ↦ (let r = alone_span t i n.0 c m w.0 in
            rw (ltb_yes c (i + size t) r.1)
            (after_first t f k i n c v m live (settle t i c v live) u h w.0 w.1
            (settle_after t i n.0 c v m live u w.0 (holds_first t f k i n m live w.1 h))))
        | inr w ↦ (let r = alone_in_span f k (i + size t) n.1 c m w.1 in
            rw (ltb_no c (i + size t) r.0)
            (after_others t f k i n c v m live (settle_in f (i + size t) c v live) u h w.0 w.1
            (settle_in_after f k (i + size t) n.1 c v m live u w.1 (holds_others t f k i n m live w.0 h))))
      ] in
      go (alone_places t f k c m al)
