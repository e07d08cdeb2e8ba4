-- The loop over the groups around a predicate: what is left of them, propagated from here, gives at every row what all give.
use Prim.Native.Nat.{ℕ, suc, ◌+◌, ◌-◌, ◌*◌, ◌≤◌, ◌<◌}
use native.Mathlib.Omega.{arith}
use mathlib.Core.Path.{◌≡◌, refl, sym, ap, ap₂, ◌∙◌}
use mathlib.Core.List.{List, [], ◌∷◌}
use lib.ListN.{length}
use Rattle.strategy.specs.Propagation.{Ancestor, propagate}
use Rattle.strategy.proofs.PropagationLaws.{propagate_stopped}
use Rattle.sets.specs.Set.{has}
use Rattle.sets.specs.SetLaws.{has_none}
use Rattle.ancestors.specs.Ancestors.{ancestors_width, ancestor_place, height_at, ancestor_at, ancestors_from, ancestors_of}
use Rattle.blocks.specs.Block.{row_step, Passed, Propagated, HasAncestor}

-- the ancestors of c from number k on
abbrev pub ancestors_left : (A : List ℕ) (c k : ℕ) → List Ancestor
ancestors_left A c k = ancestors_from A (ancestor_place c k) (height_at A c - k)

ancestors_step : (A : List ℕ) (c k : ℕ) → k < height_at A c → ancestors_left A c k ≡ ancestor_at A (ancestor_place c k) ∷ ancestors_left A c (k + 1)
unfolding ancestors_from
ancestors_step A c k h =
    let n : height_at A c - k ≡ suc (height_at A c - (k + 1)) = omega arith in
    let p : ancestor_place c k + 3 ≡ ancestor_place c (k + 1) = omega arith in
    rw (n, p)

ancestors_end : (A : List ℕ) (c k : ℕ) → height_at A c ≤ k → ancestors_left A c k ≡ []
unfolding ancestors_from
ancestors_end A c k h = let n : height_at A c - k ≡ 0 = omega arith in rw n

ancestors_start : (A : List ℕ) (c : ℕ) → ancestors_left A c 0 ≡ ancestors_of A c
ancestors_start A c =
    let n : height_at A c - 0 ≡ height_at A c = omega arith in
    let p : ancestor_place c 0 ≡ ancestors_width * c + 1 = omega arith in
    ap₂ (ancestors_from A) p n

-- after k ancestors: L are the words at first, N by now
pub record Propagating (A : List ℕ) (c k met due active : ℕ) (L N : List ℕ) : Type 0 where
  pub size : length N ≡ length L
  pub left : (d : ℕ) → propagate (has met d) (ancestors_left A c k) (row_step N active d) ≡ propagate (has met d) (ancestors_of A c) (row_step L due d)

module _ (A : List ℕ) (c met due : ℕ) (L : List ℕ) where
  pub propagate_start : Propagating A c 0 met due due L L
  propagate_start = record { size = refl; left = λ d. ap (λ (gs : List Ancestor). propagate (has met d) gs (row_step L due d)) (ancestors_start A c) }

  module _ (k active : ℕ) (N : List ℕ) (C : Propagating A c k met due active L N) where
    pub propagate_end : height_at A c ≤ k → Propagated (ancestors_of A c) met due active L N
    unfolding propagate
    propagate_end h = record {
      size = C.size;
      rows = λ d. sym (ap (λ (gs : List Ancestor). propagate (has met d) gs (row_step N active d)) (ancestors_end A c k h)) ∙ C.left d;
    }

    module _ (next : ℕ) (M : List ℕ) (h : k < height_at A c) (P : Passed (ancestor_at A (ancestor_place c k)) met active next N M) where
      pub propagate_next : Propagating A c (k + 1) met due next L M
      unfolding propagate
      propagate_next = record {
        size = P.size ∙ C.size;
        left = λ d. ap (propagate (has met d) (ancestors_left A c (k + 1))) (P.rows d)
            ∙ sym (ap (λ (gs : List Ancestor). propagate (has met d) gs (row_step N active d)) (ancestors_step A c k h))
            ∙ C.left d;
      }

      -- no row goes on
      pub propagate_stops : next ≡ 0 → Propagated (ancestors_of A c) met due next L M
      propagate_stops e = record {
        size = P.size ∙ C.size;
        rows = λ d. sym (propagate_stopped (has met d) (ancestors_left A c (k + 1)) (row_step M next d) (ap (λ (x : ℕ). has x d) e ∙ has_none d)) ∙ propagate_next.left d;
      }

-- a span of some words is one of as many others
pub span_of : {A : List ℕ} {i m n : ℕ} → n ≡ m → HasAncestor A i m → HasAncestor A i n
span_of e S = rw e S
