-- The bytes of a tree whose groups have members are accepted or refused by 10 to 13, never by 7, 8, 9 or 14: they are whole fields, known tags, groups
-- with members, and one field. By induction over the tree, as in DecodeLaws, but with any payloads.
use Prim.Native.Nat.{ℕ, zero, suc, ◌+◌, ◌*◌, ◌≤◌, ◌<◌}
use native.Mathlib.Omega.{arith}
use mathlib.Core.Path.{◌≡◌, refl, sym, ◌∙◌, subst}
use mathlib.Core.Bool.{Bool, true, false, cond}
use mathlib.Core.List.{List, [], ◌++◌, append_assoc, append-nil}
use lib.ListN.{length, drop, length-append}
use lib.Dec.{leb}
use Rattle.std.specs.Prelude.{Ok, Err}
use borrow.Author.Tests.{ne_eqb, eq-eqb}
use Rattle.fields.specs.Decoded.{refused, accepted}
use Rattle.fields.specs.Header.{header_size, field_of}
use Rattle.fields.proofs.FieldLaws.{drop_past, field_length, payload_read, field_inside, header_read}
use Rattle.strategy.specs.Tree.{Tree, leaf, group, Forest, none, more, NonEmpty, NonEmpties}
use Rattle.predicate.specs.Meaning.{Predicate}
use Rattle.predicate.specs.Payload.{valid_payload}
use Rattle.query.specs.declared.member.MemberField.TheVariants as field
use Rattle.query.specs.declared.refusal.Refusal.TheVariants as refusal
use Rattle.query.specs.Format.{predicate_tag, predicate_limit, depth_limit, too_deep, repeated_payload}
use Rattle.query.specs.Decode.{payload_at, is_repeated, predicate_field, group_field, member_field, Read, as_group, field_then, member_before, member_then, member, members, whole_query, decode_tagged}
use Rattle.query.specs.Encode.{group_tag, encode, encodes}
use Rattle.query.proofs.DecodeLaws.{some_bytes, some_members, group_is}

-- a reading up to a place, or one of those refusals
abbrev To : {A : Type 0} → (place : ℕ) → Read A → Type 0
To place (refused e) = (too_deep ≤ e) × (e ≤ repeated_payload)
To place (accepted (x, ps, next)) = next ≡ place

module _ (tags q : List ℕ) (number : ℕ) (members-of : ℕ → ℕ → Read (Forest ℕ)) (start stop : ℕ) where
  predicate_to : (earlier : List Predicate) → To stop (field_then q number (predicate_field tags q earlier start stop) members-of)
  unfolding predicate_field
  predicate_to earlier = go (leb predicate_limit (length earlier)) (valid_payload tags (payload_at q start stop)) (is_repeated (payload_at q start stop) earlier)
    where
      go : (x y z : Bool)
          → To stop (field_then q number (cond x (Err refusal.TooManyPredicates) (cond y (cond z (Err refusal.RepeatedPayload) (Ok (field.Leaf start stop))) (Err refusal.InvalidPayload))) members-of)
      go true y z = (omega arith, omega arith)
      go false true true = (omega arith, omega arith)
      go false true false = refl
      go false false z = (omega arith, omega arith)

  as_group_to : (tag : ℕ) (o : Read (Forest ℕ)) → To stop o → To stop (as_group tag o)
  as_group_to tag (refused e) h = h
  as_group_to tag (accepted (f, ps, next)) h = h

  group_to : (depth tag : ℕ) → (start ≡ stop → ⊥) → To stop (members-of start stop) → To stop (field_then q number (group_field depth tag start stop) members-of)
  unfolding group_field
  group_to depth tag n h = rw (ne_eqb start stop n) (go (leb depth_limit depth))
    where
      go : (x : Bool) → To stop (field_then q number (cond x (Err refusal.TooDeep) (Ok (field.Group tag start stop))) members-of)
      go true = (omega arith, omega arith)
      go false = as_group_to tag (members-of start stop) h

before_to : (place : ℕ) (t : Tree ℕ) (ps : List Predicate) (o : Read (Forest ℕ)) → To place o → To place (member_before t ps o)
before_to place t ps (refused e) h = h
before_to place t ps (accepted (f, rest, next)) h = h

then_to : (middle place : ℕ) (o : Read (Tree ℕ)) (rest : List Predicate → ℕ → Read (Forest ℕ)) → To middle o → ((ps : List Predicate) → To place (rest ps middle)) → To place (member_then o rest)
then_to middle place (refused e) rest h r = h
then_to middle place (accepted (t, ps, next)) rest h r = before_to place t ps (rest ps next) (subst (λ (m : ℕ). To place (rest ps m)) (sym h) (r ps))

module _ (tags q : List ℕ) (short : length q < 65536 + header_size) where
  mutual
    unfolding member member_field encode

    tree_to : (t : Tree (List ℕ)) → NonEmpty t → (k at end around : ℕ) (earlier : List Predicate) (rest : List ℕ) → drop at q ≡ encode t ++ rest → at + length (encode t) ≤ end
        → 2 * length (encode t) ≤ k → To (at + length (encode t)) (member k tags q at end around earlier)
    tree_to t n zero at end around earlier rest h w l = absurd (omega (arith, some_bytes t))
    tree_to (leaf p) n (suc k) at end around earlier rest h w l =
        let m = field_length predicate_tag p in
        let i = field_inside q at predicate_tag p rest h in
        let e : at + length (field_of predicate_tag p) ≡ at + header_size + length p = omega arith in
        rw (e, header_read q at predicate_tag p rest h end (omega arith) (omega arith))
        (predicate_to tags q (length earlier) (λ s e. members k tags q s e (around + 1) earlier) (at + header_size) (at + header_size + length p) earlier)
    tree_to (group j f) n (suc k) at end around earlier rest h w l =
        let m = field_length (group_tag j) (encodes f) in
        let i = field_inside q at (group_tag j) (encodes f) rest h in
        let s = some_members f n.0 in
        let e : at + length (field_of (group_tag j) (encodes f)) ≡ at + header_size + length (encodes f) = omega arith in
        rw (
          e,
          header_read q at (group_tag j) (encodes f) rest h end (omega arith) (omega arith),
          group_is tags q j around earlier (at + header_size) (at + header_size + length (encodes f)),
        )
        (group_to tags q (length earlier) (λ s e. members k tags q s e (around + 1) earlier) (at + header_size) (at + header_size + length (encodes f)) around (group_tag j) (λ z. omega arith)
        (forest_to f n.1 k (at + header_size) (at + header_size + length (encodes f)) (around + 1) earlier rest (payload_read q at (group_tag j) (encodes f) rest h) refl (omega arith)))

    forest_to : (f : Forest (List ℕ)) → NonEmpties f → (k at end around : ℕ) (earlier : List Predicate) (rest : List ℕ) → drop at q ≡ encodes f ++ rest → end ≡ at + length (encodes f)
        → 2 * length (encodes f) < k → To end (members k tags q at end around earlier)
    forest_to f n zero at end around earlier rest h w l = absurd (omega arith)
    forest_to none n (suc k) at end around earlier rest h w l = let e : at ≡ end = omega arith in rw (eq-eqb at end e) e
    forest_to (more t f) n (suc k) at end around earlier rest h w l =
        let b = some_bytes t in
        let s = length-append (encode t) (encodes f) in
        let e = h ∙ append_assoc (encode t) (encodes f) rest in
        let after = drop_past q at (encode t) (encodes f ++ rest) e in
        rw (ne_eqb at end (λ z. omega arith))
        (then_to (at + length (encode t)) end (member k tags q at end around earlier) (λ ps next. members k tags q next end around (earlier ++ ps))
        (tree_to t n.0 k at end around earlier (encodes f ++ rest) e (omega arith) (omega arith))
        (λ ps. forest_to f n.1 k (at + length (encode t)) end around (earlier ++ ps) rest after (omega arith) (omega arith)))

pub written_refusal : (tags : List ℕ) (t : Tree (List ℕ)) → NonEmpty t → length (encode t) < 65536 → (e : ℕ) → decode_tagged tags (encode t) ≡ refused e → (10 ≤ e) × (e ≤ 13)
unfolding decode_tagged
written_refusal tags t full short e h =
    let q : List ℕ = encode t in
    go (member (2 * length q + 1) tags q 0 (length q) 0 [])
    (tree_to tags q (omega arith) t full (2 * length q + 1) 0 (length q) 0 [] [] (sym (append-nil q)) (omega arith) (omega arith)) h
  where
    go : (o : Read (Tree ℕ)) → To (0 + length (encode t)) o → whole_query (encode t) o ≡ refused e → (10 ≤ e) × (e ≤ 13)
    go (refused e') r g = let z : e' ≡ e = cc in omega arith
    go (accepted (u, ps, next)) r g =
        let y : next ≡ length (encode t) = omega arith in
        let x : whole_query (encode t) (accepted (u, ps, next)) ≡ accepted (record { tree = u; predicates = ps }) = rw (eq-eqb next (length (encode t)) y) in
        let z : ◌≡◌ {A = ℕ} 0 1 = cc in
        absurd (omega arith)
