-- The walk of a question goes front to back: inside its field nothing behind a member's end is read, so a refusal is the same whatever bytes follow
-- the field, and one that its members so far have, but for a cut member's, whatever members follow them.
use Prim.Native.Nat.{ℕ, zero, suc, ◌+◌, ◌-◌, ◌*◌, ◌≤◌, ◌<◌}
use native.Mathlib.Omega.{arith}
use mathlib.Core.Path.{◌≡◌, refl, sym, ap, ◌∙◌}
use mathlib.Core.Bool.{Bool, true, false, cond}
use mathlib.Core.Logic.{◌⊎◌, inl, inr}
use mathlib.Core.List.{List, [], ◌++◌, append-nil}
use lib.ListN.{length, get_or, length-append}
use lib.Dec.{eqb}
use Rattle.std.specs.Prelude.{Option, None, Some, Result, Ok, Err, IfOk}
use borrow.Author.Tests.{eqb-false, eq-eqb, ne_eqb}
use Rattle.fields.specs.declared.header.Field.{Field}
use Rattle.fields.specs.Decoded.{Decoded, refused, accepted}
use Rattle.fields.specs.Numbers.{number_at, bytes_of}
use Rattle.fields.specs.Header.{header_at, some_field, header_size, field_of}
use Rattle.fields.proofs.FieldLaws.{HeaderIs, FieldAt, header_is, header_whole, header_cut, field_length, header_read}
use Rattle.fields.proofs.FrontLaws.{Follows, appended, part_same, header_same, header_farther}
use Rattle.catalogue.specs.Catalogue.{Catalogue}
use Rattle.predicate.specs.Meaning.{Predicate}
use Rattle.predicate.specs.Payload.{tags_of}
use Rattle.strategy.specs.Tree.{Tree, Forest}
use Rattle.query.specs.declared.member.MemberField.{MemberField}
use Rattle.query.specs.declared.member.MemberField.TheVariants as field
use Rattle.query.specs.declared.refusal.Refusal.{Refusal}
use Rattle.query.specs.Format.{member_cut, bytes_after_query}
use Rattle.query.specs.Query.{Query}
use Rattle.query.specs.Sound.{SoundField}
use Rattle.query.specs.Decode.{payload_at, predicate_field, member_field, Read, as_group, field_then, member_before, member_then, unless_end, member, members, whole_query, decode_tagged, decode_query}
use Rattle.query.specs.Encode.{group_tag}
use Rattle.query.proofs.Fields.{field_sound, group_members}
use Rattle.query.proofs.Readings.{SoundTree, SoundForest, member_sound, members_sound}
use Rattle.query.proofs.DecodeLaws.{group_is}

-- two questions: from a place on the second is the first, then more bytes
module _ (tags : List ℕ) {q q' : List ℕ} {from : ℕ} (follows : Follows q q' from) where
  payload_front : (start stop : ℕ) → from ≤ start → start ≤ stop → stop ≤ length q → payload_at q' start stop ≡ payload_at q start stop
  unfolding payload_at
  payload_front = part_same follows

  field_front : (at end depth : ℕ) (earlier : List Predicate) (h : Option Field) → from ≤ at → end ≤ length q → HeaderIs q at end h
      → member_field tags q' depth earlier h ≡ member_field tags q depth earlier h
  unfolding member_field predicate_field
  field_front at end depth earlier None w l s = refl
  field_front at end depth earlier (Some f) w l s = rw (payload_front f.start f.end (omega (arith, s.begins)) (omega (arith, s.sized)) (omega (arith, s.within)))

  then_front : (at end depth number : ℕ) (m : Result MemberField Refusal) (go far : ℕ → ℕ → Read (Forest ℕ)) → from ≤ at → end ≤ length q → IfOk m (SoundField tags q at end depth number)
      → ((start stop : ℕ) → start ≡ at + header_size → start < stop → stop ≤ end → far start stop ≡ go start stop)
      → field_then q' number m far ≡ field_then q number m go
  then_front at end depth number (Err e) go far f l s same = refl
  then_front at end depth number (Ok (field.Leaf start stop)) go far f l s same = rw (payload_front start stop (omega arith) (omega arith) (omega arith))
  then_front at end depth number (Ok (field.Group tag start stop)) go far f l s same = rw (same start stop s.0 s.1 s.2)

  more_front : (at end number : ℕ) (o : Read (Tree ℕ)) (rest far : List Predicate → ℕ → Read (Forest ℕ)) → SoundTree tags q at end number o
      → ((ps : List Predicate) (next : ℕ) → at < next → next ≤ end → far ps next ≡ rest ps next) → member_then o far ≡ member_then o rest
  more_front at end number (refused e) rest far s same = refl
  more_front at end number (accepted (t, ps, next)) rest far s same = rw (same ps next s.past s.inside)

  -- a member whose header is the same, and the members up to an end, by any two bounds of the calls that are enough
  mutual
    unfolding member

    member_front : (k k' at end far depth : ℕ) (earlier : List Predicate) → from ≤ at → end ≤ length q → header_at q' at far ≡ header_at q at end → 2 * (end - at) < k → 2 * (end - at) < k'
        → member k' tags q' at far depth earlier ≡ member k tags q at end depth earlier
    member_front zero k' at end far depth earlier f l h e e' = absurd (omega arith)
    member_front (suc k) zero at end far depth earlier f l h e e' = absurd (omega arith)
    member_front (suc k) (suc k') at end far depth earlier f l h e e' =
        rw (h, field_front at end depth earlier (header_at q at end) f l (header_is q at end))
        (then_front at end depth (length earlier) (member_field tags q depth earlier (header_at q at end))
        (λ s t. members k tags q s t (depth + 1) earlier) (λ s t. members k' tags q' s t (depth + 1) earlier) f l (field_sound tags q at end depth earlier)
        (λ s t x y z. members_front k k' s t (depth + 1) earlier (omega arith) (omega arith) (omega arith) (omega arith)))

    members_front : (k k' at end depth : ℕ) (earlier : List Predicate) → from ≤ at → end ≤ length q → 2 * (end - at) + 1 < k → 2 * (end - at) + 1 < k'
        → members k' tags q' at end depth earlier ≡ members k tags q at end depth earlier
    members_front zero k' at end depth earlier f l e e' = absurd (omega arith)
    members_front (suc k) zero at end depth earlier f l e e' = absurd (omega arith)
    members_front (suc k) (suc k') at end depth earlier f l e e' =
        rw (member_front k k' at end end depth earlier f l (header_same follows at end f l) (omega arith) (omega arith))
        (ap (unless_end (eqb at end) at)
        (more_front at end (length earlier) (member k tags q at end depth earlier)
        (λ ps next. members k tags q next end depth (earlier ++ ps)) (λ ps next. members k' tags q' next end depth (earlier ++ ps)) (member_sound k tags q at end depth earlier)
        (λ ps next x y. members_front k k' next end depth (earlier ++ ps) (omega arith) l (omega arith) (omega arith))))

cut_refused : (k : ℕ) (tags q : List ℕ) (at end depth : ℕ) (earlier : List Predicate) → 0 < k → header_at q at end ≡ None → member k tags q at end depth earlier ≡ refused member_cut
unfolding member member_field
cut_refused zero tags q at end depth earlier l c = absurd (omega arith)
cut_refused (suc k) tags q at end depth earlier l c = rw c

-- THE QUESTION IS ONE FIELD

-- bytes left over are left over with more behind them
left_over_lem : (tags q q' : List ℕ) (e : ℕ) (o : Read (Tree ℕ)) → length q ≤ length q' → SoundTree tags q 0 (length q) 0 o → whole_query q o ≡ refused e → whole_query q' o ≡ refused e
left_over_lem tags q q' e (refused x) l s h = h
left_over_lem tags q q' e (accepted (t, ps, next)) l s h = go (eqb next (length q)) refl h
  where
    go : (x : Bool) → eqb next (length q) ≡ x → cond {A = Decoded Query} x (accepted (record { tree = t; predicates = ps })) (refused bytes_after_query) ≡ refused e
        → cond {A = Decoded Query} (eqb next (length q')) (accepted (record { tree = t; predicates = ps })) (refused bytes_after_query) ≡ refused e
    go true y h = let z : ◌≡◌ {A = ℕ} 0 1 = cc in absurd (omega arith)
    go false y h =
        let n : next ≡ length q → ⊥ = eqb-false _ _ y in
        rw (ne_eqb next (length q') (λ z. n (omega (arith, s.inside)))) h

pub question_cut : (C : Catalogue) (q : List ℕ) → length q < header_size + number_at q 1 2 → decode_query C q ≡ refused member_cut
unfolding decode_query decode_tagged
question_cut C q l = rw (cut_refused (2 * length q + 1) (tags_of C) q 0 (length q) 0 [] (omega arith) (header_cut q 0 (length q) (omega arith)))

pub question_whole : (C : Catalogue) (q : List ℕ) → header_size + number_at q 1 2 ≤ length q → (e : ℕ) → decode_query C q ≡ refused e → (tail : List ℕ) → decode_query C (q ++ tail) ≡ refused e
unfolding decode_query decode_tagged
question_whole C q w e h tail =
    let a = length-append q tail in
    let x : header_at q 0 (length q) ≡ some_field (get_or q 0 0) header_size (header_size + number_at q 1 2) = header_whole q 0 (length q) (omega arith) in
    let s : FieldAt q 0 (length q) (get_or q 0 0) header_size (header_size + number_at q 1 2) = rw x at (header_is q 0 (length q)) in
    let y : header_at (q ++ tail) 0 (length (q ++ tail)) ≡ header_at q 0 (length q) = header_farther (appended q tail) s (omega arith) (omega arith) (length (q ++ tail)) (omega arith) ∙ sym x in
    rw (member_front (tags_of C) (appended q tail) (2 * length q + 1) (2 * length (q ++ tail) + 1) 0 (length q) (length (q ++ tail)) 0 [] (omega arith) (omega arith) y (omega arith) (omega arith))
    (left_over_lem (tags_of C) q (q ++ tail) e (member (2 * length q + 1) (tags_of C) q 0 (length q) 0 []) (omega arith) (member_sound (2 * length q + 1) (tags_of C) q 0 (length q) 0 []) h)

-- A GROUP'S MEMBERS

before_refused : (t : Tree ℕ) (ps : List Predicate) (e : ℕ) (o : Read (Forest ℕ)) → member_before t ps o ≡ refused e → o ≡ refused e
before_refused t ps e (refused x) h = h
before_refused t ps e (accepted (f, rest, next)) h = let z : ◌≡◌ {A = ℕ} 0 1 = cc in absurd (omega arith)

-- the first member is refused, or the rest is
rest_refused : (tags q : List ℕ) (e at end number : ℕ) (o : Read (Tree ℕ)) (rest far : List Predicate → ℕ → Read (Forest ℕ)) → SoundTree tags q at end number o
    → ((ps : List Predicate) (next : ℕ) → at < next → next ≤ end → rest ps next ≡ refused e → far ps next ≡ refused e) → member_then o rest ≡ refused e → member_then o far ≡ refused e
rest_refused tags q e at end number (refused x) rest far s same h = h
rest_refused tags q e at end number (accepted (t, ps, next)) rest far s same h = rw (same ps next s.past s.inside (before_refused t ps e (rest ps next) h))

-- members up to an end and, in the second question, up to a farther one
module _ (tags : List ℕ) {q q' : List ℕ} {from : ℕ} (follows : Follows q q' from) (end far : ℕ) (within : end ≤ length q) (farther : end ≤ far) (e : ℕ) (uncut : e ≡ member_cut → ⊥) where
  module _ (k k' at depth : ℕ) (earlier : List Predicate) (f : from ≤ at) (i : at ≤ end) (l : 2 * (end - at) < k) (l' : 2 * (end - at) < k') (rest rest' : List Predicate → ℕ → Read (Forest ℕ))
      (same : (ps : List Predicate) (next : ℕ) → at < next → next ≤ end → rest ps next ≡ refused e → rest' ps next ≡ refused e) where
    first_farther : (x : Option Field) → header_at q at end ≡ x → HeaderIs q at end x
        → member_then (member k tags q at end depth earlier) rest ≡ refused e → member_then (member k' tags q' at far depth earlier) rest' ≡ refused e
    first_farther None c s h =
        let y : ◌≡◌ {A = Read (Forest ℕ)} (refused member_cut) (refused e) = rw (cut_refused k tags q at end depth earlier (omega arith) c) at h in
        let z : e ≡ member_cut = cc in
        absurd (uncut z)
    first_farther (Some f') c s h =
        rw (member_front tags follows k k' at end far depth earlier f within (header_farther follows s f within far farther ∙ sym c) l l')
        (rest_refused tags q e at end (length earlier) (member k tags q at end depth earlier) rest rest' (member_sound k tags q at end depth earlier) same h)

    step_farther : (x : Bool) → eqb at end ≡ x → unless_end x at (member_then (member k tags q at end depth earlier) rest) ≡ refused e
        → unless_end (eqb at far) at (member_then (member k' tags q' at far depth earlier) rest') ≡ refused e
    step_farther true x h = let z : ◌≡◌ {A = ℕ} 0 1 = cc in absurd (omega arith)
    step_farther false x h =
        let n : at ≡ end → ⊥ = eqb-false _ _ x in
        rw (ne_eqb at far (λ z. n (omega arith))) (first_farther (header_at q at end) refl (header_is q at end) h)

  members_farther : (k k' at depth : ℕ) (earlier : List Predicate) → from ≤ at → at ≤ end → 2 * (end - at) + 1 < k → 2 * (end - at) + 1 < k'
      → members k tags q at end depth earlier ≡ refused e → members k' tags q' at far depth earlier ≡ refused e
  unfolding member
  members_farther zero k' at depth earlier f i l l' h = absurd (omega arith)
  members_farther (suc k) zero at depth earlier f i l l' h = absurd (omega arith)
  members_farther (suc k) (suc k') at depth earlier f i l l' h =
      step_farther k k' at depth earlier f i (omega arith) (omega arith) (λ ps next. members k tags q next end depth (earlier ++ ps)) (λ ps next. members k' tags q' next far depth (earlier ++ ps))
      (λ ps next x y. members_farther k k' next depth (earlier ++ ps) (omega arith) y (omega arith) (omega arith)) (eqb at end) refl h

-- a question that is a group: its members
module _ (tags : List ℕ) (j : Bool) (payload : List ℕ) (some : 0 < length payload) (short : length payload < 65536) where
  abbrev written : List ℕ
  written = field_of (group_tag j) payload

  abbrev inside : Read (Forest ℕ)
  inside = members (2 * length written) tags written header_size (header_size + length payload) 1 []

  group_read : (k : ℕ) → k ≡ suc (2 * length written) → member k tags written 0 (length written) 0 [] ≡ as_group (group_tag j) inside
  unfolding member
  group_read k s =
      let n = field_length (group_tag j) payload in
      let h : header_at written 0 (length written) ≡ some_field (group_tag j) header_size (header_size + length payload) =
      header_read written 0 (group_tag j) payload [] (sym (append-nil written)) (length written) short (omega arith) in
      rw (s, h, group_is tags written j 0 [] header_size (header_size + length payload), ← (group_members 0 (group_tag j) header_size (header_size + length payload) (omega arith) (λ z. omega arith)))

  tagged_group : decode_tagged tags written ≡ whole_query written (as_group (group_tag j) inside)
  unfolding decode_tagged
  tagged_group = rw (group_read (2 * length written + 1) (omega arith))

  -- it is refused for its members alone
  group_refused : (e : ℕ) → decode_tagged tags written ≡ refused e → inside ≡ refused e
  group_refused e h = go inside (members_sound (2 * length written) tags written header_size (header_size + length payload) 1 []) (rw tagged_group at h)
    where
      go : (o : Read (Forest ℕ)) → SoundForest tags written header_size (header_size + length payload) 0 o → whole_query written (as_group (group_tag j) o) ≡ refused e → o ≡ refused e
      go (refused x) s h = cc
      go (accepted (f, ps, next)) s h =
          let x : eqb next (length written) ≡ true = eq-eqb next (length written) (omega (arith, s.inside, field_length (group_tag j) payload)) in
          let y : ◌≡◌ {A = ℕ} 0 1 = cc in
          absurd (omega arith)

payload_follows : (tag : ℕ) (payload more : List ℕ) → Follows (field_of tag payload) (field_of tag (payload ++ more)) header_size
unfolding field_of bytes_of
payload_follows tag payload more = record { tail = more; dropped = refl }

tagged_walk : (tags : List ℕ) (j : Bool) (payload more : List ℕ) (e : ℕ) → 0 < length payload → length (payload ++ more) < 65536 → (e ≡ member_cut → ⊥)
    → decode_tagged tags (field_of (group_tag j) payload) ≡ refused e → decode_tagged tags (field_of (group_tag j) (payload ++ more)) ≡ refused e
tagged_walk tags j payload more e some short uncut h =
    let a = length-append payload more in
    let m = field_length (group_tag j) payload in
    let n = field_length (group_tag j) (payload ++ more) in
    tagged_group tags j (payload ++ more) (omega arith) short
    ∙ rw (members_farther tags (payload_follows (group_tag j) payload more) (header_size + length payload) (header_size + length (payload ++ more)) (omega arith) (omega arith) e uncut
    (2 * length (field_of (group_tag j) payload)) (2 * length (field_of (group_tag j) (payload ++ more))) header_size 1 [] (omega arith) (omega arith) (omega arith) (omega arith)
    (group_refused tags j payload some (omega arith) e h))

pub question_walk : (C : Catalogue) (tag : ℕ) (payload more : List ℕ) (e : ℕ) → (tag ≡ 65) ⊎ (tag ≡ 79) → 0 < length payload → length (payload ++ more) < 65536 → (e ≡ member_cut → ⊥)
    → decode_query C (field_of tag payload) ≡ refused e → decode_query C (field_of tag (payload ++ more)) ≡ refused e
unfolding decode_query
question_walk C tag payload more e (inl t) some short uncut h = rw t (tagged_walk (tags_of C) false payload more e some short uncut (rw t at h))
question_walk C tag payload more e (inr t) some short uncut h = rw t (tagged_walk (tags_of C) true payload more e some short uncut (rw t at h))
