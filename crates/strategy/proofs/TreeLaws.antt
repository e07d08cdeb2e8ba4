-- Laws of a tree's value: all and any in plain words, growth, which leaves it reads, relabelling.
use Rattle.std.specs.Prelude.{ℕ, ◌+◌, ◌≡◌, Bool, true, false, ◌&&◌, ◌||◌, not, ◌⊎◌}
use Rattle.std.proofs.Common.{arith, sym, ap₂, true≢false, inl, inr}
use Rattle.std.proofs.Math.Path.{refl}
use Rattle.bools.specs.Bools.{both, and_parts, and_fails, or_cases, or_fails, or_right}
use Rattle.strategy.specs.Assignment.{Assignment}
use Rattle.strategy.specs.Tree.{Tree, leaf, group, Forest, none, more, all, any, join, settles, eval, evals, size, sizes, Numbered, Numbereds, relabel, relabels, InSpan}

-- the value of a group in plain words
module _ {A : Type 0} (a : A → Bool) where
  pub all_none : eval (all none) a ≡ true
  unfolding eval
  all_none = refl

  pub all_more : (t : Tree A) (f : Forest A) → eval (all (more t f)) a ≡ (eval t a && eval (all f) a)
  unfolding eval
  all_more t f = refl

  pub any_none : eval (any none) a ≡ false
  unfolding eval
  any_none = refl

  pub any_more : (t : Tree A) (f : Forest A) → eval (any (more t f)) a ≡ (eval t a || eval (any f) a)
  unfolding eval
  any_more t f = refl

-- a member's outcome settles its group or leaves it to the others
pub settles_self : (k : Bool) → settles k k ≡ true
settles_self true = refl
settles_self false = refl

pub settles_not : (k v : Bool) → v ≡ not k → settles k v ≡ false
settles_not false v e = rw e
settles_not true v e = e

pub settles_yes : (k v : Bool) → settles k v ≡ true → v ≡ k
settles_yes false true e = absurd (true≢false (sym e))
settles_yes false false e = refl
settles_yes true v e = e

pub settles_no : (k v : Bool) → settles k v ≡ false → v ≡ not k
settles_no false true e = refl
settles_no false false e = absurd (true≢false e)
settles_no true v e = e

-- `k` settles alone, `not k` leaves the value to the other
pub join_unit_left : (k v : Bool) → join k (not k) v ≡ v
join_unit_left false v = refl
join_unit_left true v = refl

pub join_unit_right : (k v : Bool) → join k v (not k) ≡ v
join_unit_right false true = refl
join_unit_right false false = refl
join_unit_right true true = refl
join_unit_right true false = refl

pub join_left : (k x y : Bool) → x ≡ k → join k x y ≡ k
join_left false x y h = rw h
join_left true x y h = rw h

pub join_right : (k x y : Bool) → y ≡ k → join k x y ≡ k
join_right false true y h = h
join_right false false y h = refl
join_right true x y h = or_right x h

pub join_not : (k x y : Bool) → join k x y ≡ not k → (x ≡ not k) × (y ≡ not k)
join_not false x y h = and_parts x y h
join_not true x y h = or_fails x y h

pub join_cases : (k x y : Bool) → join k x y ≡ k → (x ≡ k) ⊎ (y ≡ k)
join_cases false x y h = and_fails x y h
join_cases true x y h = or_cases x y h

join_mono : (k v x y x' y' : Bool) → (x ≡ v → x' ≡ v) → (y ≡ v → y' ≡ v) → join k x y ≡ v → join k x' y' ≡ v
join_mono false true x y x' y' f g h = let hs = and_parts x y h in both (f hs.0) (g hs.1)
join_mono false false x y x' y' f g h =
    let go : (x ≡ false) ⊎ (y ≡ false) → (x' && y') ≡ false = elim [ inl e ↦ join_left false x' y' (f e) | inr e ↦ join_right false x' y' (g e) ] in
    go (and_fails x y h)
join_mono true true x y x' y' f g h =
    let go : (x ≡ true) ⊎ (y ≡ true) → (x' || y') ≡ true = elim [ inl e ↦ join_left true x' y' (f e) | inr e ↦ join_right true x' y' (g e) ] in
    go (or_cases x y h)
join_mono true false x y x' y' f g h = let hs = or_fails x y h in rw (f hs.0, g hs.1)

-- where `a` has `v`, `b` has it too
abbrev pub Toward : Bool → Assignment → Assignment → Type 0
Toward v a b = (d : ℕ) → a d ≡ v → b d ≡ v

-- more outcomes `v`, the value `v` all the more: a tree has no negation
mutual
  unfolding eval

  pub eval_toward : (t : Tree ℕ) (v : Bool) (a b : Assignment) → Toward v a b → eval t a ≡ v → eval t b ≡ v
  eval_toward (leaf c) v a b g h = g c h
  eval_toward (group k f) v a b g h = evals_toward f k v a b g h

  pub evals_toward : (f : Forest ℕ) (k v : Bool) (a b : Assignment) → Toward v a b → evals f k a ≡ v → evals f k b ≡ v
  evals_toward none k v a b g h = h
  evals_toward (more t f) k v a b g h =
      join_mono k v (eval t a) (evals f k a) (eval t b) (evals f k b) (λ e. eval_toward t v a b g e) (λ e. evals_toward f k v a b g e) h

-- the value hangs on the outcomes in the tree's span of numbers
abbrev pub AgreeIn : ℕ → ℕ → Assignment → Assignment → Type 0
AgreeIn i n a b = (d : ℕ) → InSpan i n d → a d ≡ b d

mutual
  unfolding eval size

  pub eval_span : (t : Tree ℕ) (i : ℕ) → Numbered t i → (a b : Assignment) → AgreeIn i (size t) a b → eval t a ≡ eval t b
  eval_span (leaf c) i n a b g = g c (omega arith)
  eval_span (group k f) i n a b g = evals_span f k i n a b g

  pub evals_span : (f : Forest ℕ) (k : Bool) (i : ℕ) → Numbereds f i → (a b : Assignment) → AgreeIn i (sizes f) a b → evals f k a ≡ evals f k b
  evals_span none k i n a b g = refl
  evals_span (more t f) k i n a b g =
      ap₂ (join k) (eval_span t i n.0 a b (λ d h. g d (omega arith))) (evals_span f k (i + size t) n.1 a b (λ d h. g d (omega arith)))

-- a relabelled tree reads the outcomes through the labels
mutual
  unfolding eval relabel

  pub eval_relabel : {A B : Type 0} (g : A → B) (t : Tree A) (a : B → Bool) → eval (relabel g t) a ≡ eval t (λ x. a (g x))
  eval_relabel g (leaf x) a = refl
  eval_relabel g (group k f) a = evals_relabel g f k a

  pub evals_relabel : {A B : Type 0} (g : A → B) (f : Forest A) (k : Bool) (a : B → Bool) → evals (relabels g f) k a ≡ evals f k (λ x. a (g x))
  evals_relabel g none k a = refl
  evals_relabel g (more t f) k a = ap₂ (join k) (eval_relabel g t a) (evals_relabel g f k a)
