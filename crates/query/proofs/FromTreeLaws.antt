-- The query of a tree of valid payloads is well-formed, and its tree of payloads is that tree: so its encoding is accepted as that query
-- (`tree_accepted`, for order 12).
use Prim.Native.Nat.{ℕ, ◌+◌, ◌≤◌}
use native.Mathlib.Omega.{arith}
use mathlib.Core.Path.{◌≡◌, refl, sym, ap, ap₂, ◌∙◌}
use mathlib.Core.Bool.{true}
use mathlib.Core.List.{List, []}
use lib.ListN.{length, get_or, length-append}
use lib.Seq.{take-length}
use Rattle.fields.specs.Decoded.{accepted}
use Rattle.fields.specs.Numbers.{Bytes}
use Rattle.fields.specs.Header.{header_size}
use Rattle.fields.proofs.ByteLaws.{bytes_drop}
use Rattle.catalogue.specs.Catalogue.{Catalogue}
use Rattle.strategy.specs.Tree.{Tree, leaf, group, Forest, none, more, size, sizes, Numbered, Numbereds, HasMember, NonEmpty, NonEmpties, relabel, relabels, EachLeaf, EachLeaves}
use Rattle.predicate.specs.Meaning.{Predicate}
use Rattle.predicate.specs.Payload.{tags_of, valid_payload, predicate_of, payload_head}
use Rattle.query.specs.Format.{predicate_limit, depth_limit}
use Rattle.query.specs.Decode.{payload_of, decode_query}
use Rattle.query.specs.Depth.{depth, depths}
use Rattle.query.specs.Encode.{encode, payload_numbered, payloads}
use Rattle.query.specs.WellFormed.{Distinct, PlacedFrom, PlacedFroms, WellFormed}
use Rattle.query.specs.FromTree.{numbered_from, numbered_froms, predicates_from, predicates_froms, query_of}
use Rattle.query.proofs.Payloads.{Part, part_left, part_right, part_one, payload_again}
use Rattle.query.proofs.Readings.{Each, each_append}
use Rattle.query.proofs.ValidLaws.{passes_valid}
use Rattle.query.proofs.Lengths.{some_leaf}
use Rattle.query.proofs.Accepted.{each_at}
use Rattle.query.proofs.Exactly.{decode_encoded}

-- numbering changes only the labels
mutual
  unfolding size depth numbered_from

  same_size : (t : Tree (List ℕ)) (n : ℕ) → size (numbered_from n t) ≡ size t
  same_size (leaf x) n = refl
  same_size (group k f) n = same_sizes f n

  same_sizes : (f : Forest (List ℕ)) (n : ℕ) → sizes (numbered_froms n f) ≡ sizes f
  same_sizes none n = refl
  same_sizes (more t f) n = ap₂ ◌+◌ (same_size t n) (same_sizes f (n + size t))

mutual
  unfolding size depth numbered_from

  same_depth : (t : Tree (List ℕ)) (n : ℕ) → depth (numbered_from n t) ≡ depth t
  same_depth (leaf x) n = refl
  same_depth (group k f) n = ap (λ d. 1 + d) (same_depths f n)

  same_depths : (f : Forest (List ℕ)) (n : ℕ) → depths (numbered_froms n f) ≡ depths f
  same_depths none n = refl
  same_depths (more t f) n = rw (same_depth t n, same_depths f (n + size t))

mutual
  unfolding size numbered_from

  numbered_from_lem : (t : Tree (List ℕ)) (n : ℕ) → Numbered (numbered_from n t) n
  numbered_from_lem (leaf x) n = refl
  numbered_from_lem (group k f) n = numbereds_from f n

  numbereds_from : (f : Forest (List ℕ)) (n : ℕ) → Numbereds (numbered_froms n f) n
  numbereds_from none n = tt
  numbereds_from (more t f) n = (numbered_from_lem t n, rw (same_size t n) (numbereds_from f (n + size t)))

has_member : (f : Forest (List ℕ)) (n : ℕ) → HasMember f → HasMember (numbered_froms n f)
unfolding numbered_from
has_member none n h = h
has_member (more t f) n h = tt

mutual
  unfolding numbered_from

  full_from : (t : Tree (List ℕ)) (n : ℕ) → NonEmpty t → NonEmpty (numbered_from n t)
  full_from (leaf x) n h = tt
  full_from (group k f) n h = (has_member f n h.0, fulls_from f n h.1)

  fulls_from : (f : Forest (List ℕ)) (n : ℕ) → NonEmpties f → NonEmpties (numbered_froms n f)
  fulls_from none n h = tt
  fulls_from (more t f) n h = (full_from t n h.0, fulls_from f (n + size t) h.1)

mutual
  unfolding size predicates_from

  count_from : (t : Tree (List ℕ)) (at : ℕ) → length (predicates_from at t) ≡ size t
  count_from (leaf x) at = refl
  count_from (group k f) at = counts_from f (at + header_size)

  counts_from : (f : Forest (List ℕ)) (at : ℕ) → length (predicates_froms at f) ≡ sizes f
  counts_from none at = refl
  counts_from (more t f) at =
      length-append (predicates_from at t) (predicates_froms (at + length (encode t)) f) ∙ ap₂ ◌+◌ (count_from t at) (counts_from f (at + length (encode t)))

-- what a payload's property gives its predicate holds of each predicate
module _ (R : List ℕ → Type 0) (P : Predicate → Type 0) (gives : (place : ℕ) (payload : List ℕ) → R payload → P (predicate_of place payload)) where
  mutual
    unfolding predicates_from

    each_from : (t : Tree (List ℕ)) (at : ℕ) → EachLeaf R t → Each P (predicates_from at t)
    each_from (leaf x) at h = (gives (at + header_size + payload_head) x h, tt)
    each_from (group k f) at h = eaches_from f (at + header_size) h

    eaches_from : (f : Forest (List ℕ)) (at : ℕ) → EachLeaves R f → Each P (predicates_froms at f)
    eaches_from none at h = tt
    eaches_from (more t f) at h =
        each_append P (predicates_from at t) (predicates_froms (at + length (encode t)) f) (each_from t at h.0) (eaches_from f (at + length (encode t)) h.1)

module _ (tags : List ℕ) where
  abbrev Valid : List ℕ → Type 0
  Valid payload = valid_payload tags payload ≡ true

  valid_again : (place : ℕ) (payload : List ℕ) → Valid payload → Valid (payload_of (predicate_of place payload))
  valid_again place payload h = rw (payload_again tags place payload h) h

  -- the payloads at the numbers are those of the tree, and the places are right
  module _ (all : List Predicate) where
    mutual
      unfolding relabel numbered_from predicates_from

      tree_from : (t : Tree (List ℕ)) (n at : ℕ) → EachLeaf Valid t → Part all n (predicates_from at t)
          → (relabel (payload_numbered all) (numbered_from n t) ≡ t) × PlacedFrom all at (numbered_from n t)
      tree_from (leaf x) n at h part =
          let p : Predicate = predicate_of (at + header_size + payload_head) x in
          (ap leaf (part_one payload_of [] all n p part ∙ payload_again tags (at + header_size + payload_head) x h), part_one (λ r. r.place) 0 all n p part)
      tree_from (group k f) n at h part = let r = forest_from f n (at + header_size) h part in (ap (group k) r.0, r.1)

      forest_from : (f : Forest (List ℕ)) (n at : ℕ) → EachLeaves Valid f → Part all n (predicates_froms at f)
          → (relabels (payload_numbered all) (numbered_froms n f) ≡ f) × PlacedFroms all at (numbered_froms n f)
      forest_from none n at h part = (refl, tt)
      forest_from (more t f) n at h part =
          let ps = predicates_from at t in
          let rest = predicates_froms (at + length (encode t)) f in
          let right : Part all (n + size t) rest = rw (count_from t at) at (part_right all n ps rest part) in
          let a = tree_from t n at h.0 (part_left all n ps rest part) in
          let b = forest_from f (n + size t) (at + length (encode t)) h.1 right in
          (ap₂ more a.0 b.0, (a.1, rw a.0 b.1))

module _ (c : Catalogue) (t : Tree (List ℕ)) (full : NonEmpty t) (shallow : depth t ≤ depth_limit) (few : size t ≤ predicate_limit)
    (valid : EachLeaf (λ payload. valid_payload (tags_of c) payload ≡ true) t) (bytes : EachLeaf Bytes t) (distinct : Distinct (predicates_from 0 t)) where
  pub query_payloads : payloads (query_of t) ≡ t
  query_payloads = (tree_from (tags_of c) (predicates_from 0 t) t 0 0 valid (take-length (predicates_from 0 t))).0

  pub query_formed : WellFormed c (query_of t)
  query_formed =
      let n = count_from t 0 in
      let s = same_size t 0 in
      let d = same_depth t 0 in
      record {
        some = omega (arith, some_leaf (numbered_from 0 t) (full_from t 0 full));
        few = omega arith;
        counted = omega arith;
        numbered = numbered_from_lem t 0;
        full = full_from t 0 full;
        shallow = omega arith;
        valid = λ i other l. passes_valid c (get_or (predicates_from 0 t) i other)
            (each_at (λ p. valid_payload (tags_of c) (payload_of p) ≡ true) (predicates_from 0 t)
            (each_from (Valid (tags_of c)) (λ p. valid_payload (tags_of c) (payload_of p) ≡ true) (valid_again (tags_of c)) t 0 valid) i other l);
        bytes = each_at (λ p. Bytes p.operand) (predicates_from 0 t)
            (each_from Bytes (λ p. Bytes p.operand) (λ place payload. bytes_drop payload payload_head) t 0 bytes);
        distinct = distinct;
        placed = (tree_from (tags_of c) (predicates_from 0 t) t 0 0 valid (take-length (predicates_from 0 t))).1;
      }

  pub tree_accepted : decode_query c (encode t) ≡ accepted (query_of t)
  tree_accepted = ap (λ u. decode_query c (encode u)) (sym query_payloads) ∙ decode_encoded c (query_of t) query_formed
