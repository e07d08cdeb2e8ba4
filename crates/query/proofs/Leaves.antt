-- The tree of a query with each predicate's payload at its leaf: other labels leave size, depth and full groups, and what holds of each valid condition's
-- payload holds at each leaf.
use Prim.Native.Nat.{ℕ, ◌+◌, ◌≤◌, ◌<◌}
use native.Mathlib.Omega.{arith}
use mathlib.Core.Path.{◌≡◌, refl, ap, ap₂}
use mathlib.Core.List.{List}
use lib.ListN.{length, get_or}
use Rattle.fields.specs.Numbers.{Bytes}
use Rattle.catalogue.specs.Catalogue.{Catalogue}
use Rattle.strategy.specs.Tree.{Tree, leaf, group, Forest, none, more, size, sizes, Numbered, Numbereds, HasMember, NonEmpty, NonEmpties, relabel, relabels, EachLeaf, EachLeaves}
use Rattle.predicate.specs.Meaning.{Predicate}
use Rattle.query.specs.Format.{predicate_limit, depth_limit}
use Rattle.query.specs.Query.{Query}
use Rattle.query.specs.Decode.{payload_of}
use Rattle.query.specs.Depth.{depth, depths}
use Rattle.query.specs.Encode.{payload_numbered, payloads}
use Rattle.query.specs.WellFormed.{ValidPredicate, WellFormed}
use Rattle.query.proofs.Payloads.{payload_each}

module _ {A B : Type 0} (g : A → B) where
  mutual
    unfolding size relabel

    pub relabel_size : (t : Tree A) → size (relabel g t) ≡ size t
    relabel_size (leaf x) = refl
    relabel_size (group k f) = relabels_size f

    relabels_size : (f : Forest A) → sizes (relabels g f) ≡ sizes f
    relabels_size none = refl
    relabels_size (more t f) = ap₂ ◌+◌ (relabel_size t) (relabels_size f)

  mutual
    unfolding depth relabel

    pub relabel_depth : (t : Tree A) → depth (relabel g t) ≡ depth t
    relabel_depth (leaf x) = refl
    relabel_depth (group k f) = ap (λ (d : ℕ). 1 + d) (relabels_depth f)

    relabels_depth : (f : Forest A) → depths (relabels g f) ≡ depths f
    relabels_depth none = refl
    relabels_depth (more t f) = rw (relabel_depth t, relabels_depth f)

  pub relabel_member : (f : Forest A) → HasMember f → HasMember (relabels g f)
  unfolding relabel
  relabel_member none h = h
  relabel_member (more t f) h = tt

  mutual
    unfolding relabel

    pub relabel_full : (t : Tree A) → NonEmpty t → NonEmpty (relabel g t)
    relabel_full (leaf x) h = tt
    relabel_full (group k f) h = (relabel_member f h.0, relabels_full f h.1)

    relabels_full : (f : Forest A) → NonEmpties f → NonEmpties (relabels g f)
    relabels_full none h = tt
    relabels_full (more t f) h = (relabel_full t h.0, relabels_full f h.1)

-- what follows from what holds at each leaf holds at each leaf
module _ {A : Type 0} {P Q : A → Type 0} (h : (x : A) → P x → Q x) where
  mutual
    pub each_leaf : (t : Tree A) → EachLeaf P t → EachLeaf Q t
    each_leaf (leaf x) y = h x y
    each_leaf (group k f) y = each_leaves f y

    each_leaves : (f : Forest A) → EachLeaves P f → EachLeaves Q f
    each_leaves none y = tt
    each_leaves (more t f) y = (each_leaf t y.0, each_leaves f y.1)

-- what holds of each label below a number holds at the leaves that carry such numbers
module _ (P : List ℕ → Type 0) (g : ℕ → List ℕ) (m : ℕ) (gives : (c : ℕ) → c < m → P (g c)) where
  mutual
    unfolding size relabel

    each_numbered : (t : Tree ℕ) (n : ℕ) → Numbered t n → n + size t ≤ m → EachLeaf P (relabel g t)
    each_numbered (leaf c) n h l = gives c (omega arith)
    each_numbered (group k f) n h l = eaches_numbered f n h l

    eaches_numbered : (f : Forest ℕ) (n : ℕ) → Numbereds f n → n + sizes f ≤ m → EachLeaves P (relabels g f)
    eaches_numbered none n h l = tt
    eaches_numbered (more t f) n h l = (each_numbered t n h.0 (omega arith), eaches_numbered f (n + size t) h.1 (omega arith))

module _ (c : Catalogue) (Q : Query) (formed : WellFormed c Q) where
  pub payloads_each : (P : List ℕ → Type 0) → ((p : Predicate) → ValidPredicate c p → Bytes p.operand → P (payload_of p)) → EachLeaf P (payloads Q)
  payloads_each P gives =
      each_numbered P (payload_numbered Q.predicates) (length Q.predicates)
      (payload_each P Q.predicates (λ i other l. gives (get_or Q.predicates i other) (formed.valid i other l) (formed.bytes i other l)))
      Q.tree 0 formed.numbered (omega (arith, formed.counted))

  pub payloads_full : NonEmpty (payloads Q)
  payloads_full = relabel_full (payload_numbered Q.predicates) Q.tree formed.full

  pub payloads_shallow : depth (payloads Q) ≤ depth_limit
  payloads_shallow = omega (arith, relabel_depth (payload_numbered Q.predicates) Q.tree, formed.shallow)

  pub payloads_few : size (payloads Q) ≤ predicate_limit
  payloads_few = omega (arith, relabel_size (payload_numbered Q.predicates) Q.tree, formed.counted, formed.few)
