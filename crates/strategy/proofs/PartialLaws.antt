-- Alone and the values still possible: where an unseen predicate is alone the tree can come to either value, and conversely.
use Rattle.std.specs.Prelude.{ℕ, ◌+◌, ◌≤◌, ◌<◌, ◌≡◌, refl, Bool, true, false, not, cond, ◌⊎◌, List, ◌∷◌, eqb, ltb}
use Rattle.std.proofs.Common.{arith, sym, ap, ◌∙◌, true≢false, inl, inr}
use Rattle.std.proofs.Math.Path.{fun_ext}
use Rattle.std.proofs.lemmas.Bool.{false≢true}
use Rattle.bools.specs.Bools.{which, clash, each, eqb_self, eqb_eq, eqb_ne, same?, ltb_lt, ltb_le}
use Rattle.strategy.specs.Assignment.{Assignment, Among}
use Rattle.strategy.proofs.AssignmentLaws.{among?}
use Rattle.strategy.specs.Tree.{Tree, leaf, group, Forest, none, more, join, eval, evals, size, sizes, Numbered, Numbereds, HasMember, NonEmpty, NonEmpties, InSpan}
use Rattle.strategy.proofs.TreeLaws.{join_unit_left, join_left, join_right, join_not, join_cases, eval_span, evals_span}
use Rattle.strategy.specs.Alone.{Status, unseen, seen, Partial, hide, is_unseen, status_as, unseen_as, alone, alone_in}
use Rattle.strategy.proofs.AloneLaws.{Either, alone_places, alone_at, hide_in, hide_off}

-- a partial assignment with one predicate seen
unfoldable pub see : Partial → ℕ → Bool → Partial
see m c v d = cond (eqb d c) (seen v) (m d)

pub see_same : (m : Partial) (c : ℕ) (v : Bool) → see m c v c ≡ seen v
unfolding see
see_same m c v = rw (eqb_self c)

pub see_other : (m : Partial) (c : ℕ) (v : Bool) (d : ℕ) → (d ≡ c → ⊥) → see m c v d ≡ m d
unfolding see
see_other m c v d h = rw (eqb_ne d c h)

-- a turn shows one predicate
pub see_hide : (c : ℕ) (cs : List ℕ) (a : Assignment) → (Among c cs → ⊥) → see (hide (c ∷ cs) a) c (a c) ≡ hide cs a
see_hide c cs a n = fun_ext (λ d. go d (same? d c) (among? d cs))
  where
    go : (d : ℕ) → (d ≡ c) ⊎ (d ≡ c → ⊥) → Among d cs ⊎ (Among d cs → ⊥) → see (hide (c ∷ cs) a) c (a c) d ≡ hide cs a d
    go d (inl y) m = rw (y, see_same (hide (c ∷ cs) a) c (a c), hide_off cs a c n)
    go d (inr k) (inl m) = see_other (hide (c ∷ cs) a) c (a c) d k ∙ hide_in (c ∷ cs) a d (inr m) ∙ sym (hide_in cs a d m)
    go d (inr k) (inr m) = see_other (hide (c ∷ cs) a) c (a c) d k ∙ hide_off (c ∷ cs) a d (elim [ inl y ↦ k y | inr y ↦ m y ]) ∙ sym (hide_off cs a d m)

pub unseen_of : (x : Status) → is_unseen x ≡ true → x ≡ unseen
unseen_of unseen h = refl
unseen_of (seen b) h = absurd (false≢true h)

-- the same is seen in a span
abbrev pub SameIn : ℕ → ℕ → Partial → Partial → Type 0
SameIn i n m m' = (d : ℕ) → InSpan i n d → m d ≡ m' d

-- whether a predicate is alone hangs on what is seen in the tree's span
mutual
  unfolding alone eval size

  pub alone_same : (t : Tree ℕ) (i : ℕ) → Numbered t i → (c : ℕ) (m m' : Partial) → SameIn i (size t) m m' → alone t c m ≡ alone t c m'
  alone_same (leaf d) i n c m m' g = refl
  alone_same (group k f) i n c m m' g = alone_in_same f k i n c m m' g

  pub alone_in_same : (f : Forest ℕ) (k : Bool) (i : ℕ) → Numbereds f i → (c : ℕ) (m m' : Partial) → SameIn i (sizes f) m m' → alone_in f k c m ≡ alone_in f k c m'
  alone_in_same none k i n c m m' g = refl
  alone_in_same (more t f) k i n c m m' g =
      let low : (d : ℕ) → InSpan i (size t) d → m d ≡ m' d = λ d h. g d (omega arith) in
      let high : (d : ℕ) → InSpan (i + size t) (sizes f) d → m d ≡ m' d = λ d h. g d (omega arith) in
      rw (
        alone_same t i n.0 c m m' low,
        alone_in_same f k (i + size t) n.1 c m m' high,
        eval_span t i n.0 (unseen_as (not k) m) (unseen_as (not k) m') (λ d h. ap (status_as (not k)) (low d h)),
        evals_span f k (i + size t) n.1 (unseen_as (not k) m) (unseen_as (not k) m') (λ d h. ap (status_as (not k)) (high d h)),
      )

-- where an unseen predicate is alone the tree can come to either value
mutual
  unfolding alone eval Either

  pub alone_either : (t : Tree ℕ) (c : ℕ) (m : Partial) → m c ≡ unseen → alone t c m ≡ true → (v : Bool) → eval t (unseen_as v m) ≡ v
  alone_either (leaf d) c m u h v = let e : d ≡ c = eqb_eq d c h in rw (e, u)
  alone_either (group k f) c m u h v = alone_in_either f k c m u h v

  pub alone_in_either : (f : Forest ℕ) (k : Bool) (c : ℕ) (m : Partial) → m c ≡ unseen → alone_in f k c m ≡ true → (v : Bool) → evals f k (unseen_as v m) ≡ v
  alone_in_either none k c m u h v = clash h refl
  alone_in_either (more t f) k c m u h v =
      let P : Bool → Type 0 = λ v. join k (eval t (unseen_as v m)) (evals f k (unseen_as v m)) ≡ v in
      let go : Either t f k c m → join k (eval t (unseen_as v m)) (evals f k (unseen_as v m)) ≡ v
      = elim [
        | inl e ↦ each P k (join_left k (eval t (unseen_as k m)) (evals f k (unseen_as k m)) (alone_either t c m u e.0 k))
            (rw (alone_either t c m u e.0 (not k), e.1) (join_unit_left k (not k))) v
        | inr e ↦ each P k (join_right k (eval t (unseen_as k m)) (evals f k (unseen_as k m)) (alone_in_either f k c m u e.1 k))
            (rw (alone_in_either f k c m u e.1 (not k), e.0) (join_unit_left k (not k))) v
      ] in
      go (alone_places t f k c m h)

-- where the tree can come to either value some unseen predicate of it is alone
abbrev pub SomeAlone : ℕ → ℕ → Partial → (ℕ → Bool) → Type 0
SomeAlone i n m A = (d : ℕ) × InSpan i n d × (m d ≡ unseen) × (A d ≡ true)

either_unseen : (x : Status) → ((v : Bool) → status_as v x ≡ v) → x ≡ unseen
either_unseen unseen h = refl
either_unseen (seen b) h = absurd (true≢false (sym (h true) ∙ h false))

mutual
  unfolding alone eval size Either

  pub either_alone : (t : Tree ℕ) (i : ℕ) → Numbered t i → (m : Partial) → ((v : Bool) → eval t (unseen_as v m) ≡ v) → SomeAlone i (size t) m (λ d. alone t d m)
  either_alone (leaf d) i n m h = (d, omega arith, either_unseen (m d) h, eqb_self d)
  either_alone (group k f) i n m h = eithers_alone f k i n m h

  pub eithers_alone : (f : Forest ℕ) (k : Bool) (i : ℕ) → Numbereds f i → (m : Partial) → ((v : Bool) → evals f k (unseen_as v m) ≡ v) → SomeAlone i (sizes f) m (λ d. alone_in f k d m)
  eithers_alone none k i n m h = absurd (true≢false (sym (h true) ∙ h false))
  eithers_alone (more t f) k i n m h =
      let hs = join_not k (eval t (unseen_as (not k) m)) (evals f k (unseen_as (not k) m)) (h (not k)) in
      let go : (eval t (unseen_as k m) ≡ k) ⊎ (evals f k (unseen_as k m) ≡ k) → SomeAlone i (size t + sizes f) m (λ d. alone_in (more t f) k d m)
      = elim [
        | inl e ↦ (let r = either_alone t i n.0 m (each (λ v. eval t (unseen_as v m) ≡ v) k e hs.0) in
            let j = r.1 in
            (r.0, omega arith, r.2, alone_at t f k r.0 m (inl (r.3, hs.1))))
        | inr e ↦ (let r = eithers_alone f k (i + size t) n.1 m (each (λ v. evals f k (unseen_as v m) ≡ v) k e hs.1) in
            let j = r.1 in
            (r.0, omega arith, r.2, alone_at t f k r.0 m (inr (hs.0, r.3))))
      ] in
      go (join_cases k (eval t (unseen_as k m)) (evals f k (unseen_as k m)) (h k))

-- at first nothing is seen: with no group empty the tree can come to either value, and each of its predicates is alone
abbrev pub nothing_seen : Partial
nothing_seen d = unseen

mutual
  unfolding eval

  pub first_either : (t : Tree ℕ) → NonEmpty t → (v : Bool) → eval t (unseen_as v nothing_seen) ≡ v
  first_either (leaf c) u v = refl
  first_either (group k f) u v = each (λ v. evals f k (unseen_as v nothing_seen) ≡ v) k (first_settled f k u.0 u.1) (first_free f k u.1) v

  first_free : (f : Forest ℕ) (k : Bool) → NonEmpties f → evals f k (unseen_as (not k) nothing_seen) ≡ not k
  first_free none k u = refl
  first_free (more t f) k u = rw (first_either t u.0 (not k), first_free f k u.1) (join_unit_left k (not k))

  first_settled : (f : Forest ℕ) (k : Bool) → HasMember f → NonEmpties f → evals f k (unseen_as k nothing_seen) ≡ k
  first_settled none k e u = absurd e
  first_settled (more t f) k e u = join_left k (eval t (unseen_as k nothing_seen)) (evals f k (unseen_as k nothing_seen)) (first_either t u.0 k)

mutual
  unfolding alone size Either

  pub first_alone : (t : Tree ℕ) (i : ℕ) → Numbered t i → NonEmpty t → (d : ℕ) → InSpan i (size t) d → alone t d nothing_seen ≡ true
  first_alone (leaf c) i n u d r = let e : c ≡ d = omega arith in rw e (eqb_self d)
  first_alone (group k f) i n u d r = first_alone_in f k i n u.1 d r

  first_alone_in : (f : Forest ℕ) (k : Bool) (i : ℕ) → Numbereds f i → NonEmpties f → (d : ℕ) → InSpan i (sizes f) d → alone_in f k d nothing_seen ≡ true
  first_alone_in none k i n u d r = absurd (omega arith)
  first_alone_in (more t f) k i n u d r =
      let go : (ltb d (i + size t) ≡ true) ⊎ (ltb d (i + size t) ≡ false) → Either t f k d nothing_seen
      = elim [
        | inl e ↦ (let l : d < i + size t = ltb_lt d (i + size t) e in inl (first_alone t i n.0 u.0 d (omega arith), first_free f k u.1))
        | inr e ↦ (let l : i + size t ≤ d = ltb_le d (i + size t) e in inr (first_either t u.0 (not k), first_alone_in f k (i + size t) n.1 u.1 d (omega arith)))
      ] in
      alone_at t f k d nothing_seen (go (which (ltb d (i + size t))))
