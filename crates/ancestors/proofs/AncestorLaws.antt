-- The table of ancestors: one ancestor more at a predicate leaves the other lines as they are; a predicate read has none yet.
use Prim.Native.Nat.{ℕ, zero, suc, ◌+◌, ◌*◌, ◌≤◌, ◌<◌}
use native.Mathlib.Numerals.{add-one}
use native.Mathlib.Omega.{arith}
use mathlib.Core.Path.{◌≡◌, refl, ap, ◌∙◌}
use mathlib.Core.Logic.{◌⊎◌, inl, inr}
use mathlib.Core.List.{List, [], ◌∷◌, ◌++◌}
use lib.ListN.{length, get_or, set}
use lib.Seq.{get_or-set_same, get_or-set_other}
use Rattle.std.proofs.lemmas.Grind.{common_steps}
use Rattle.bools.specs.Bools.{same?}
use Rattle.query.specs.Format.{depth_limit}
use Rattle.ancestors.specs.Ancestors.{ancestor_size, ancestors_width, height_at, ancestor_place, ancestor_over, ancestor_at, ancestors_from, ancestors_of, Low, IsSpan, Spans, Closed}

from_last : (A : List ℕ) (i n : ℕ) → ancestors_from A i (suc n) ≡ ancestors_from A i n ++ (ancestor_at A (i + ancestor_size * n) ∷ [])
unfolding ancestors_from
from_last A i zero = (let e : i + ancestor_size * 0 ≡ i = omega arith in rw e)
from_last A i (suc n) =
    ap (λ r. ancestor_at A i ∷ r) (from_last A (i + ancestor_size) n)
    ∙ (let e : i + ancestor_size + ancestor_size * n ≡ i + ancestor_size * suc n = omega arith in rw e)

from_same : (A B : List ℕ) (i n : ℕ) → ((p : ℕ) → i ≤ p → p < i + ancestor_size * n → get_or B p 0 ≡ get_or A p 0) → ancestors_from B i n ≡ ancestors_from A i n
unfolding ancestors_from
from_same A B i zero h = refl
from_same A B i (suc n) h =
    rw (
      h i (omega arith) (omega arith),
      h (i + 1) (omega arith) (omega arith),
      h (i + 2) (omega arith) (omega arith),
      from_same A B (i + ancestor_size) n (λ p a b. h p (omega arith) (omega arith)),
    )

-- the line of predicate c, byte for byte
abbrev SameLine : (before after : List ℕ) → (c : ℕ) → Type 0
SameLine A B c = (p : ℕ) → ancestors_width * c ≤ p → p < ancestors_width * c + ancestors_width → get_or B p 0 ≡ get_or A p 0

module _ (A B : List ℕ) (c : ℕ) (same : SameLine A B c) where
  height_same : height_at B c ≡ height_at A c
  height_same = same (ancestors_width * c) (omega arith) (omega arith)

  line_same : height_at A c ≤ depth_limit → ancestors_of B c ≡ ancestors_of A c
  line_same low = rw height_same (from_same A B (ancestors_width * c + 1) (height_at A c) (λ p a b. same p (omega arith) (omega arith)))

  span_same : (n k : ℕ) → k < depth_limit → IsSpan n A (ancestor_place c k) → IsSpan n B (ancestor_place c k)
  span_same n k low s =
      rw (same (ancestor_place c k) (omega arith) (omega arith), same (ancestor_place c k + 1) (omega arith) (omega arith)) s

pub closed_none : (a m tag : ℕ) (A : List ℕ) → Low m A → Spans m A → Closed a a m tag A A
closed_none a m tag A l s = record {
  inside = λ c i j. absurd (omega arith);
  before = λ c i. refl;
  after = λ c i j. refl;
  taller = λ c i j. absurd (omega arith);
  same_before = λ c i. refl;
  same_after = λ c i. refl;
  low = l;
  spans = s;
}

-- the next predicate of the group, c, gets its ancestor
module _ (A : List ℕ) (a c m tag h i : ℕ) (is-height : h ≡ height_at A c) (is-place : i ≡ ancestor_place c h)
    (low : h < depth_limit) (fits : ancestors_width * c + ancestors_width ≤ length A) where
  abbrev raised : List ℕ
  raised = set (set (set (set A (i + 0) a) (i + 1) m) (i + 2) tag) (ancestors_width * c) (h + 1)

  off_place : (p : ℕ) → (p ≡ i → ⊥) → (p ≡ i + 1 → ⊥) → (p ≡ i + 2 → ⊥) → (p ≡ ancestors_width * c → ⊥) → get_or raised p 0 ≡ get_or A p 0
  off_place p x y z l = grind (arith, common_steps)

  other_line : (d : ℕ) → (d ≡ c → ⊥) → SameLine A raised d
  other_line d n p from to = off_place p (λ e. n (omega arith)) (λ e. n (omega arith)) (λ e. n (omega arith)) (λ e. n (omega arith))

  earlier : (p : ℕ) → ancestors_width * c < p → p < i → get_or raised p 0 ≡ get_or A p 0
  earlier p from to = off_place p (λ e. omega arith) (λ e. omega arith) (λ e. omega arith) (λ e. omega arith)

  raised_height : height_at raised c ≡ h + 1
  raised_height = grind (arith, common_steps)

  raised_first : get_or raised i 0 ≡ a
  raised_first = grind (arith, common_steps)

  raised_end : get_or raised (i + 1) 0 ≡ m
  raised_end = grind (arith, common_steps)

  raised_tag : get_or raised (i + 2) 0 ≡ tag
  raised_tag = grind (arith, common_steps)

  raised_line : ancestors_of raised c ≡ ancestors_of A c ++ (ancestor_over a m tag ∷ [])
  raised_line =
      let e : ancestors_width * c + 1 + ancestor_size * h ≡ i = omega arith in
      rw (
        raised_height ∙ add-one h,
        ← is-height,
        from_last,
        e,
        raised_first,
        raised_end,
        raised_tag,
        from_same A raised (ancestors_width * c + 1) h (λ p x y. earlier p (omega arith) (omega arith)),
      )

  raised_span : a ≤ m → (k : ℕ) → k < h + 1 → (k < h → IsSpan m A (ancestor_place c k)) → IsSpan m raised (ancestor_place c k)
  raised_span o k l s = go (same? k h)
    where
      go : (k ≡ h) ⊎ (k ≡ h → ⊥) → IsSpan m raised (ancestor_place c k)
      go (inl z) = (let e : ancestor_place c k ≡ i = omega arith in rw (e, raised_first, raised_end) (o, omega arith))
      go (inr z) =
          rw (earlier (ancestor_place c k) (omega arith) (omega arith), earlier (ancestor_place c k + 1) (omega arith) (omega arith))
          (s (omega arith))

  pub closed_more : (A0 : List ℕ) → a ≤ c → c < m → Closed a c m tag A0 A → Closed a (c + 1) m tag A0 raised
  closed_more A0 ac cm C = record {
    inside = λ d x y. in_group d x y (same? d c);
    before = λ d x. let n : d ≡ c → ⊥ = λ z. omega arith in line_same A raised d (other_line d n) (C.low d (omega arith)) ∙ C.before d x;
    after = λ d x y. let n : d ≡ c → ⊥ = λ z. omega arith in line_same A raised d (other_line d n) (C.low d y) ∙ C.after d (omega arith) y;
    taller = λ d x y. higher d x y (same? d c);
    same_before = λ d x. height_same A raised d (other_line d (λ z. omega arith)) ∙ C.same_before d x;
    same_after = λ d x. height_same A raised d (other_line d (λ z. omega arith)) ∙ C.same_after d (omega arith);
    low = λ d x. still_low d x (same? d c);
    spans = λ d k x y. still_span d k x y (same? d c);
  }
    where
      in_group : (d : ℕ) → a ≤ d → d < c + 1 → (d ≡ c) ⊎ (d ≡ c → ⊥) → ancestors_of raised d ≡ ancestors_of A0 d ++ (ancestor_over a m tag ∷ [])
      in_group d x y (inl z) = rw z (raised_line ∙ ap (λ l. l ++ (ancestor_over a m tag ∷ [])) (C.after c (omega arith) cm))
      in_group d x y (inr z) = line_same A raised d (other_line d z) (C.low d (omega arith)) ∙ C.inside d x (omega arith)

      higher : (d : ℕ) → a ≤ d → d < c + 1 → (d ≡ c) ⊎ (d ≡ c → ⊥) → height_at raised d ≡ height_at A0 d + 1
      higher d x y (inl z) = rw z (raised_height ∙ ap (λ (k : ℕ). k + 1) (is-height ∙ C.same_after c (omega arith)))
      higher d x y (inr z) = height_same A raised d (other_line d z) ∙ C.taller d x (omega arith)

      still_low : (d : ℕ) → d < m → (d ≡ c) ⊎ (d ≡ c → ⊥) → height_at raised d ≤ depth_limit
      still_low d x (inl z) = rw z (rw raised_height (omega arith))
      still_low d x (inr z) = rw (height_same A raised d (other_line d z)) (C.low d x)

      still_span : (d k : ℕ) → d < m → k < height_at raised d → (d ≡ c) ⊎ (d ≡ c → ⊥) → IsSpan m raised (ancestor_place d k)
      still_span d k x y (inl z) =
          rw z (raised_span (omega arith) k (rw (z, raised_height) at y) (λ l. C.spans c k cm (rw (← is-height) l)))
      still_span d k x y (inr z) =
          let b = C.low d x in
          let l : k < height_at A d = rw (height_same A raised d (other_line d z)) at y in
          span_same A raised d (other_line d z) m k (omega arith) (C.spans d k x l)

-- a predicate read has no ancestor yet
module _ (A : List ℕ) (n : ℕ) (inside : ancestors_width * n < length A) (low : Low n A) where
  abbrev fresh : List ℕ
  fresh = set A (ancestors_width * n) 0

  fresh_line : (c : ℕ) → (c ≡ n → ⊥) → SameLine A fresh c
  fresh_line c z p from to = get_or-set_other A (ancestors_width * n) p 0 0 (λ e. z (omega arith))

  pub fresh_height : height_at fresh n ≡ 0
  fresh_height = get_or-set_same A (ancestors_width * n) 0 0 inside

  pub fresh_kept : (c : ℕ) → c < n → height_at fresh c ≡ height_at A c
  fresh_kept c l = height_same A fresh c (fresh_line c (λ z. omega arith))

  pub fresh_none : ancestors_of fresh n ≡ []
  unfolding ancestors_from
  fresh_none = rw fresh_height

  pub fresh_old : (c : ℕ) → c < n → ancestors_of fresh c ≡ ancestors_of A c
  fresh_old c l = line_same A fresh c (fresh_line c (λ z. omega arith)) (low c l)

  pub fresh_low : Low (n + 1) fresh
  fresh_low c l = go (same? c n)
    where
      go : (c ≡ n) ⊎ (c ≡ n → ⊥) → height_at fresh c ≤ depth_limit
      go (inl z) = rw z (rw fresh_height (omega arith))
      go (inr z) = rw (fresh_kept c (omega arith)) (low c (omega arith))

  pub fresh_spans : Spans n A → Spans (n + 1) fresh
  fresh_spans s c k l h = go (same? c n)
    where
      go : (c ≡ n) ⊎ (c ≡ n → ⊥) → IsSpan (n + 1) fresh (ancestor_place c k)
      go (inl z) = let e : k < 0 = rw (z, fresh_height) at h in absurd (omega arith)
      go (inr z) =
          let b = low c (omega arith) in
          let i : k < height_at A c = rw (fresh_kept c (omega arith)) at h in
          let o = s c k (omega arith) i in
          span_same A fresh c (fresh_line c z) (n + 1) k (omega arith) (o.0, omega arith)
