-- In a tree numbered from left to right a predicate is due just where it is alone.
use Rattle.std.specs.Prelude.{ℕ, ◌+◌, ◌≤◌, ◌<◌, ◌≡◌, refl, Bool, true, false, ◌&&◌, cond, ◌⊎◌, List, ◌∷◌, ltb, eqb}
use Rattle.std.proofs.Common.{arith, sym, ap, ◌∙◌, true≢false}
use Rattle.std.proofs.Math.Bool.{not}
use Rattle.std.proofs.Math.Logic.{inl, inr}
use Rattle.bools.specs.Bools.{clash, iff_eq, each, both, and_parts, or_cases, or_left, or_right, eqb_self, eqb_eq, same?, ltb_yes, ltb_no, not_of_true}
use Rattle.strategy.specs.Assignment.{Assignment, update, Among, AgreeOff}
use Rattle.strategy.proofs.AssignmentLaws.{update_same, update_other, update_twice, update_agrees, among?, elem_yes, elem_no}
use Rattle.strategy.specs.Strategy.{Due}
use Rattle.strategy.specs.Trace.{due}
use Rattle.strategy.proofs.DueLaws.{due_law}
use Rattle.strategy.specs.Tree.{Tree, leaf, group, Forest, none, more, join, settles, eval, evals, size, sizes, Numbered, Numbereds, InSpan}
use Rattle.strategy.proofs.TreeLaws.{settles_not, settles_no, join_unit_left, join_unit_right, join_not, join_cases, Toward, eval_toward, evals_toward, eval_span, evals_span}
use Rattle.strategy.specs.Alone.{unseen, seen, Partial, hide, status_as, unseen_as, alone, alone_in}

-- the two places in a group where `c` can be alone: its first member, with the others not settling, or among the others
unfoldable pub Either : Tree ℕ → Forest ℕ → Bool → ℕ → Partial → Type 0
Either t f k c m =
    ((alone t c m ≡ true) × (evals f k (unseen_as (not k) m) ≡ not k)) ⊎ ((eval t (unseen_as (not k) m) ≡ not k) × (alone_in f k c m ≡ true))

module _ (t : Tree ℕ) (f : Forest ℕ) (k : Bool) (c : ℕ) (m : Partial) where
  first : Bool
  first = eval t (unseen_as (not k) m)

  others : Bool
  others = evals f k (unseen_as (not k) m)

  pub alone_places : alone_in (more t f) k c m ≡ true → Either t f k c m
  unfolding alone Either first others
  alone_places h = go (or_cases (alone t c m && not (settles k others)) (not (settles k first) && alone_in f k c m) h)
    where
      go : ((alone t c m && not (settles k others)) ≡ true) ⊎ ((not (settles k first) && alone_in f k c m) ≡ true) → Either t f k c m
      go (inl e) = let es = and_parts (alone t c m) (not (settles k others)) e in inl (es.0, settles_no k others (not_of_true (settles k others) es.1))
      go (inr e) = let es = and_parts (not (settles k first)) (alone_in f k c m) e in inr (settles_no k first (not_of_true (settles k first) es.0), es.1)

  pub alone_at : Either t f k c m → alone_in (more t f) k c m ≡ true
  unfolding alone Either first others
  alone_at (inl e) =
      or_left (not (settles k first) && alone_in f k c m) (both e.0 (ap not (settles_not k others e.1)))
  alone_at (inr e) =
      or_right (alone t c m && not (settles k others)) (both (ap not (settles_not k first e.0)) e.1)

-- two assignments, one for each outcome of `c`, the same elsewhere and each within what is seen
record Around (c : ℕ) (m : Partial) (x : Bool → Assignment) : Type 0 where
  off : (d : ℕ) → (d ≡ c → ⊥) → x true d ≡ x false d
  within : (v : Bool) → Toward v (x v) (unseen_as v m)

-- where the tree follows `c` on two such assignments, `c` is alone
mutual
  unfolding eval alone Either

  follows_alone : (t : Tree ℕ) (c : ℕ) (m : Partial) (x : Bool → Assignment) → Around c m x → ((v : Bool) → eval t (x v) ≡ v) → alone t c m ≡ true
  follows_alone (leaf d) c m x r h =
      let go : (d ≡ c) ⊎ (d ≡ c → ⊥) → eqb d c ≡ true = elim [ inl e ↦ rw e (eqb_self c) | inr n ↦ clash (h true) (r.off d n ∙ h false) ] in
      go (same? d c)
  follows_alone (group k f) c m x r h = follows_alone_in f k c m x r h

  follows_alone_in : (f : Forest ℕ) (k : Bool) (c : ℕ) (m : Partial) (x : Bool → Assignment) → Around c m x → ((v : Bool) → evals f k (x v) ≡ v) → alone_in f k c m ≡ true
  follows_alone_in none k c m x r h = clash (sym (h false) ∙ h true) refl
  follows_alone_in (more t f) k c m x r h =
      let hs = join_not k (eval t (x (not k))) (evals f k (x (not k))) (h (not k)) in
      let go : (eval t (x k) ≡ k) ⊎ (evals f k (x k) ≡ k) → Either t f k c m
      = elim [
        | inl e ↦ inl (follows_alone t c m x r (each (λ v. eval t (x v) ≡ v) k e hs.0), evals_toward f k (not k) (x (not k)) (unseen_as (not k) m) (r.within (not k)) hs.1)
        | inr e ↦ inr (eval_toward t (not k) (x (not k)) (unseen_as (not k) m) (r.within (not k)) hs.0, follows_alone_in f k c m x r (each (λ v. evals f k (x v) ≡ v) k e hs.1))
      ] in
      alone_at t f k c m (go (join_cases k (eval t (x k)) (evals f k (x k)) (h k)))

-- where `c` is alone it is one of the tree's numbers
mutual
  unfolding alone size Either

  pub alone_span : (t : Tree ℕ) (i : ℕ) → Numbered t i → (c : ℕ) (m : Partial) → alone t c m ≡ true → InSpan i (size t) c
  alone_span (leaf d) i n c m h = let e : d ≡ c = eqb_eq d c h in omega arith
  alone_span (group k f) i n c m h = alone_in_span f k i n c m h

  pub alone_in_span : (f : Forest ℕ) (k : Bool) (i : ℕ) → Numbereds f i → (c : ℕ) (m : Partial) → alone_in f k c m ≡ true → InSpan i (sizes f) c
  alone_in_span none k i n c m h = clash h refl
  alone_in_span (more t f) k i n c m h =
      let go : Either t f k c m → InSpan i (size t + sizes f) c
      = elim [
        | inl e ↦ (let r = alone_span t i n.0 c m e.0 in omega arith)
        | inr e ↦ (let r = alone_in_span f k (i + size t) n.1 c m e.1 in omega arith)
      ] in
      go (alone_places t f k c m h)

-- an assignment keeps to what is seen
abbrev pub Fits : Assignment → Partial → Type 0
Fits q m = (d : ℕ) (b : Bool) → m d ≡ seen b → q d ≡ b

fits_unseen_as : (v : Bool) (m : Partial) → Fits (unseen_as v m) m
fits_unseen_as v m d b e = rw e

-- `q` below `k`, `r` from `k` on
unfoldable split : ℕ → Assignment → Assignment → Assignment
split k q r d = cond (ltb d k) (q d) (r d)

split_low : (k : ℕ) (q r : Assignment) (d : ℕ) → d < k → split k q r d ≡ q d
unfolding split
split_low k q r d h = rw (ltb_yes d k h)

split_high : (k : ℕ) (q r : Assignment) (d : ℕ) → k ≤ d → split k q r d ≡ r d
unfolding split
split_high k q r d h = rw (ltb_no d k h)

fits_split : (k : ℕ) (q r : Assignment) (m : Partial) → Fits q m → Fits r m → Fits (split k q r) m
unfolding split
fits_split k q r m f g d b e = go (ltb d k)
  where
    go : (l : Bool) → cond l (q d) (r d) ≡ b
    go true = f d b e
    go false = g d b e

-- an assignment within what is seen on which `E` follows `c`
record Witness (E : Assignment → Bool) (c : ℕ) (m : Partial) : Type 0 where
  at : Assignment
  fits : Fits at m
  follows : (v : Bool) → E (update at c v) ≡ v

-- of two values, one that reads only numbers below `b` and one that reads only those from `b` on, the other leans to `not k`
module _ (b c : ℕ) (m : Partial) (k : Bool) (E F : Assignment → Bool)
    (l : (q r : Assignment) → ((d : ℕ) → d < b → q d ≡ r d) → E q ≡ E r)
    (h : (q r : Assignment) → ((d : ℕ) → b ≤ d → q d ≡ r d) → F q ≡ F r) where
  witness_low : c < b → Witness E c m → F (unseen_as (not k) m) ≡ not k → Witness (λ q. join k (E q) (F q)) c m
  witness_low lt w e = record {
    at = split b w.at o;
    fits = fits_split b w.at o m w.fits (fits_unseen_as (not k) m);
    follows = λ v. rw (
      l (update (split b w.at o) c v) (update w.at c v) (λ d g. update_agrees (split b w.at o) w.at c v d (split_low b w.at o d g)),
      h (update (split b w.at o) c v) o (λ d g. update_other (split b w.at o) c v d (λ x. omega arith) ∙ split_high b w.at o d g),
      w.follows v,
      e,
    ) (join_unit_right k v);
  }
    where
      o : Assignment
      o = unseen_as (not k) m

  witness_high : b ≤ c → E (unseen_as (not k) m) ≡ not k → Witness F c m → Witness (λ q. join k (E q) (F q)) c m
  witness_high le e w = record {
    at = split b o w.at;
    fits = fits_split b o w.at m (fits_unseen_as (not k) m) w.fits;
    follows = λ v. rw (
      l (update (split b o w.at) c v) o (λ d g. update_other (split b o w.at) c v d (λ x. omega arith) ∙ split_low b o w.at d g),
      h (update (split b o w.at) c v) (update w.at c v) (λ d g. update_agrees (split b o w.at) w.at c v d (split_high b o w.at d g)),
      w.follows v,
      e,
    ) (join_unit_left k v);
  }
    where
      o : Assignment
      o = unseen_as (not k) m

-- where `c` is alone there is such an assignment: the unseen ones lean to keep each other member from settling its group
mutual
  unfolding eval alone Either

  alone_witness : (t : Tree ℕ) (i : ℕ) → Numbered t i → (c : ℕ) (m : Partial) → alone t c m ≡ true → Witness (eval t) c m
  alone_witness (leaf d) i n c m h =
      let e : d ≡ c = eqb_eq d c h in
      record { at = unseen_as false m; fits = fits_unseen_as false m; follows = λ v. rw e (update_same (unseen_as false m) c v) }
  alone_witness (group k f) i n c m h = alone_in_witness f k i n c m h

  alone_in_witness : (f : Forest ℕ) (k : Bool) (i : ℕ) → Numbereds f i → (c : ℕ) (m : Partial) → alone_in f k c m ≡ true → Witness (evals f k) c m
  alone_in_witness none k i n c m h = clash h refl
  alone_in_witness (more t f) k i n c m h =
      let l : (q r : Assignment) → ((d : ℕ) → d < i + size t → q d ≡ r d) → eval t q ≡ eval t r = λ q r g. eval_span t i n.0 q r (λ d j. g d j.1) in
      let u : (q r : Assignment) → ((d : ℕ) → i + size t ≤ d → q d ≡ r d) → evals f k q ≡ evals f k r = λ q r g. evals_span f k (i + size t) n.1 q r (λ d j. g d j.0) in
      let go : Either t f k c m → Witness (λ q. join k (eval t q) (evals f k q)) c m
      = elim [
        | inl e ↦ witness_low (i + size t) c m k (eval t) (evals f k) l u (alone_span t i n.0 c m e.0).1 (alone_witness t i n.0 c m e.0) e.1
        | inr e ↦ witness_high (i + size t) c m k (eval t) (evals f k) l u (alone_in_span f k (i + size t) n.1 c m e.1).0 e.0 (alone_in_witness f k (i + size t) n.1 c m e.1)
      ] in
      go (alone_places t f k c m h)

pub hide_in : (l : List ℕ) (a : Assignment) (d : ℕ) → Among d l → hide l a d ≡ unseen
unfolding hide
hide_in l a d h = rw (elem_yes d l h)

pub hide_off : (l : List ℕ) (a : Assignment) (d : ℕ) → (Among d l → ⊥) → hide l a d ≡ seen (a d)
unfolding hide
hide_off l a d h = rw (elem_no d l h)

-- of a yes and a no at one predicate the yes is the greater, so where the values differ the tree follows it
update_toward : (q : Assignment) (c : ℕ) → Toward true (update q c false) (update q c true)
update_toward q c d h = go (same? d c)
  where
    go : (d ≡ c) ⊎ (d ≡ c → ⊥) → update q c true d ≡ true
    go (inl e) = rw (e, update_same q c true)
    go (inr n) = update_other q c true d n ∙ sym (update_other q c false d n) ∙ h

follows_of : (x : Bool → Bool) → (x false ≡ true → x true ≡ true) → (x true ≡ x false → ⊥) → (v : Bool) → x v ≡ v
follows_of x f n = go (x true) (x false) refl refl
  where
    go : (p q : Bool) → x true ≡ p → x false ≡ q → (v : Bool) → x v ≡ v
    go true true p q v = absurd (n (p ∙ sym q))
    go true false p q v = each (λ v. x v ≡ v) true p q v
    go false true p q v = clash (f q) p
    go false false p q v = absurd (n (p ∙ sym q))

module _ (t : Tree ℕ) (c : ℕ) (later : List ℕ) (a : Assignment) where
  around : (q : Assignment) → AgreeOff later q a → Around c (hide (c ∷ later) a) (update q c)
  around q g = record {
    off = λ d n. update_other q c true d n ∙ sym (update_other q c false d n);
    within = λ v d h. go v d h (among? d (c ∷ later));
  }
    where
      go : (v : Bool) (d : ℕ) → update q c v d ≡ v → Among d (c ∷ later) ⊎ (Among d (c ∷ later) → ⊥) → status_as v (hide (c ∷ later) a d) ≡ v
      go v d h (inl m) = rw (hide_in (c ∷ later) a d m)
      go v d h (inr n) = rw (hide_off (c ∷ later) a d n) (sym (update_other q c v d (λ e. n (inl e)) ∙ g d (λ m. n (inr m))) ∙ h)

  to_alone : Due (eval t) c later a → alone t c (hide (c ∷ later) a) ≡ true
  to_alone D =
      follows_alone t c (hide (c ∷ later) a) (update D.0 c) (around D.0 D.1)
      (follows_of (λ v. eval t (update D.0 c v)) (eval_toward t true (update D.0 c false) (update D.0 c true) (update_toward D.0 c)) D.2)

  from_alone : (i : ℕ) → Numbered t i → alone t c (hide (c ∷ later) a) ≡ true → Due (eval t) c later a
  from_alone i n h = (update w.at c (a c), off, λ e. true≢false (sym (at true) ∙ e ∙ at false))
    where
      w : Witness (eval t) c (hide (c ∷ later) a)
      w = alone_witness t i n c (hide (c ∷ later) a) h

      at : (v : Bool) → eval t (update (update w.at c (a c)) c v) ≡ v
      at v = rw (update_twice w.at c v (a c)) (w.follows v)

      off : AgreeOff later (update w.at c (a c)) a
      off d m = go (same? d c)
        where
          go : (d ≡ c) ⊎ (d ≡ c → ⊥) → update w.at c (a c) d ≡ a d
          go (inl e) = rw (e, update_same w.at c (a c))
          go (inr k) = update_other w.at c (a c) d k ∙ w.fits d (a d) (hide_off (c ∷ later) a d (elim [ inl e ↦ k e | inr j ↦ m j ]))

  -- DUE IS ALONE
  pub due_alone : (i : ℕ) → Numbered t i → due (eval t) c later a ≡ alone t c (hide (c ∷ later) a)
  due_alone i n =
      iff_eq (due (eval t) c later a) (alone t c (hide (c ∷ later) a))
      (λ h. to_alone ((due_law (eval t) c later a).0 h))
      (λ h. (due_law (eval t) c later a).1 (from_alone i n h))
