-- The bytes of an accepted query are the encoding of its tree with its payloads. By induction over readings: the query from a member
-- on is the member's encoding, then the query from the place after it on.
use Prim.Native.Nat.{ℕ, ◌+◌, ◌-◌, ◌≤◌}
use native.Mathlib.Omega.{arith}
use mathlib.Core.Path.{◌≡◌, refl, sym, ◌∙◌}
use mathlib.Core.Bool.{Bool, true, false, ◌||◌}
use mathlib.Core.List.{List, [], ◌∷◌, ◌++◌, append_assoc, append-nil}
use lib.ListN.{length, drop, length-append, take-append-drop}
use lib.Seq.{drop-drop, drop-length, take-length}
use lib.Dec.{eqb}
use borrow.Author.Tests.{eqb-true}
use Rattle.fields.specs.Decoded.{accepted}
use Rattle.fields.specs.Numbers.{Bytes}
use Rattle.fields.proofs.FieldLaws.{FieldAt, field_written}
use Rattle.catalogue.specs.Catalogue.{Catalogue}
use Rattle.strategy.specs.Tree.{Tree, leaf, group, Forest, more, relabel, relabels}
use Rattle.predicate.specs.Meaning.{Predicate}
use Rattle.predicate.specs.Payload.{tags_of, predicate_of, payload_head}
use Rattle.query.specs.Format.{conjunction_tag, disjunction_tag, predicate_tag}
use Rattle.query.specs.Query.{Query}
use Rattle.query.specs.Decode.{payload_at, payload_of, settling_of, decode_tagged, decode_query}
use Rattle.query.specs.Encode.{group_tag, encode, encodes, payload_numbered, payloads}
use Rattle.query.proofs.Payloads.{Part, part_left, part_right, part_one, payload_again}
use Rattle.query.proofs.Induction.{LeafAt, GroupAt, Said, Steps, accepted_holds}

group_tag_lem : (tag : ℕ) → (eqb tag conjunction_tag || eqb tag disjunction_tag) ≡ true → tag ≡ group_tag (settling_of tag)
group_tag_lem tag h = go (eqb tag disjunction_tag) refl (eqb tag conjunction_tag) refl h
  where
    go : (x : Bool) → eqb tag disjunction_tag ≡ x → (y : Bool) → eqb tag conjunction_tag ≡ y → (y || x) ≡ true → tag ≡ group_tag x
    go true e y f g = eqb-true tag disjunction_tag e
    go false e true f g = eqb-true tag conjunction_tag f
    go false e false f g = let z : ◌≡◌ {A = ℕ} 0 1 = cc in absurd (omega arith)

module _ (q : List ℕ) (bytes : Bytes q) where
  module _ (at end tag start stop : ℕ) (stands : FieldAt q at end tag start stop) (inside : end ≤ length q) where
    payload_written : drop start q ≡ payload_at q start stop ++ drop stop q
    unfolding payload_at
    payload_written =
        let s = stands.sized in
        let z : start + (stop - start) ≡ stop = omega arith in
        sym (take-append-drop (stop - start) (drop start q)) ∙ rw (drop-drop (stop - start) start q, z)

  abbrev TreeWritten : Said (Tree ℕ)
  TreeWritten at end depth earlier t ps next =
      end ≤ length q → (all : List Predicate) → Part all (length earlier) ps → drop at q ≡ encode (relabel (payload_numbered all) t) ++ drop next q

  abbrev ForestWritten : Said (Forest ℕ)
  ForestWritten at end depth earlier f ps next =
      end ≤ length q → (all : List Predicate) → Part all (length earlier) ps → drop at q ≡ encodes (relabels (payload_numbered all) f) ++ drop next q

  module _ (tags : List ℕ) where
    leaf_written : (at end depth : ℕ) (earlier : List Predicate) (start stop : ℕ) → LeafAt tags q at end earlier start stop
        → TreeWritten at end depth earlier (leaf (length earlier)) (predicate_of (start + payload_head) (payload_at q start stop) ∷ []) stop
    unfolding encode relabel
    leaf_written at end depth earlier start stop f inside all part =
        let e : payload_numbered all (length earlier) ≡ payload_at q start stop =
        part_one payload_of [] all (length earlier) (predicate_of (start + payload_head) (payload_at q start stop)) part ∙ payload_again tags (start + payload_head) (payload_at q start stop) f.valid in
        rw e (field_written q bytes at end predicate_tag start stop f.stands inside (payload_at q start stop)
        (payload_written at end predicate_tag start stop f.stands inside))

    group_written : (at end depth : ℕ) (earlier : List Predicate) (tag start stop : ℕ) (f : Forest ℕ) (ps : List Predicate) → GroupAt q at end depth tag start stop
        → ForestWritten start stop (depth + 1) earlier f ps stop → TreeWritten at end depth earlier (group (settling_of tag) f) ps stop
    unfolding encode relabel
    group_written at end depth earlier tag start stop f ps s h inside all part =
        let w = s.stands.within in
        rw (← (group_tag_lem tag s.sort)) (field_written q bytes at end tag start stop s.stands inside (encodes (relabels (payload_numbered all) f)) (h (omega arith) all part))

    more_written : (at end depth : ℕ) (earlier : List Predicate) (t : Tree ℕ) (ps : List Predicate) (next : ℕ) (f : Forest ℕ) (rest : List Predicate) (last : ℕ)
        → TreeWritten at end depth earlier t ps next → ForestWritten next end depth (earlier ++ ps) f rest last → ForestWritten at end depth earlier (more t f) (ps ++ rest) last
    unfolding encode relabel
    more_written at end depth earlier t ps next f rest last h r inside all part =
        let right : Part all (length (earlier ++ ps)) rest = rw length-append (part_right all (length earlier) ps rest part) in
        h inside all (part_left all (length earlier) ps rest part) ∙ rw (r inside all right)
        (sym (append_assoc (encode (relabel (payload_numbered all) t)) (encodes (relabels (payload_numbered all) f)) (drop last q)))

    written : Steps tags q TreeWritten ForestWritten
    unfolding encode relabel
    written = record {
      on_leaf = leaf_written;
      on_group = group_written;
      on_none = λ at depth earlier inside all part. refl;
      on_more = more_written;
    }

    pub encode_decoded : (Q : Query) → decode_tagged tags q ≡ accepted Q → q ≡ encode (payloads Q)
    encode_decoded Q h =
        accepted_holds tags q Q h TreeWritten ForestWritten written (omega arith) Q.predicates (take-length Q.predicates)
        ∙ rw (drop-length q) (append-nil (encode (payloads Q)))

  pub encode_query : (c : Catalogue) (Q : Query) → decode_query c q ≡ accepted Q → q ≡ encode (payloads Q)
  unfolding decode_query
  encode_query c Q h = encode_decoded (tags_of c) Q h
