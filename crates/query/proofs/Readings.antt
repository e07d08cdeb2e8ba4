-- What holds of every reading, by induction on its definition: it goes forward and stays within its end, it has 1 to 64
-- predicates, numbered from left to right, no empty group, and each predicate is valid and lies in the query.
use Prim.Native.Nat.{ℕ, zero, suc, ◌+◌, ◌-◌, ◌*◌, ◌≤◌, ◌<◌}
use native.Mathlib.Omega.{arith}
use mathlib.Core.Path.{◌≡◌, refl}
use mathlib.Core.Bool.{Bool, true, false, cond}
use mathlib.Core.List.{List, [], ◌∷◌, ◌++◌}
use lib.ListN.{length, take, drop, length-append, length-take, length-drop}
use lib.Dec.{eqb}
use Rattle.std.specs.Prelude.{Result, Ok, Err, IfOk}
use borrow.Author.Tests.{eqb-true}
use Rattle.fields.specs.Decoded.{refused, accepted}
use Rattle.fields.specs.Header.{header_at}
use Rattle.strategy.specs.Tree.{Tree, Forest, size, sizes, Numbered, Numbereds, HasMember, NonEmpty, NonEmpties}
use Rattle.predicate.specs.Meaning.{Predicate}
use Rattle.predicate.specs.Payload.{valid_payload, predicate_of, payload_head}
use Rattle.predicate.proofs.PayloadLaws.{valid_payload_lem}
use Rattle.query.specs.declared.member.MemberField.{MemberField}
use Rattle.query.specs.declared.member.MemberField.TheVariants as field
use Rattle.query.specs.declared.refusal.Refusal.{Refusal}
use Rattle.query.specs.Format.{predicate_limit, bytes_after_query}
use Rattle.query.specs.Query.{Query}
use Rattle.query.specs.Decode.{payload_at, payload_of, member_field, Read, as_group, field_then, member_before, member_then, unless_end, member, members, whole_query, decode_tagged}
use Rattle.query.specs.Sound.{SoundField}
use Rattle.query.proofs.PayloadBytes.{operand_bytes, payload_parts}
use Rattle.query.proofs.Fields.{field_sound}

-- a predicate is a valid condition, and its operand stands at its place in the query
pub record Fits (tags q : List ℕ) (p : Predicate) : Type 0 where
  pub valid : valid_payload tags (payload_of p) ≡ true
  pub inside : p.place + length p.operand ≤ length q
  pub bytes : p.operand ≡ take (length p.operand) (drop p.place q)

abbrev pub Each : (Predicate → Type 0) → List Predicate → Type 0
Each P [] = Unit {0}
Each P (p ∷ ps) = P p × Each P ps

pub each_append : (P : Predicate → Type 0) (ps rest : List Predicate) → Each P ps → Each P rest → Each P (ps ++ rest)
each_append P [] rest a b = b
each_append P (p ∷ ps) rest a b = (a.0, each_append P ps rest a.1 b)

-- of a member read from `at` on, with `number` predicates before it
pub record TreeSound (tags q : List ℕ) (at end number : ℕ) (t : Tree ℕ) (ps : List Predicate) (next : ℕ) : Type 0 where
  pub past : at < next
  pub inside : next ≤ end
  pub some : 1 ≤ length ps
  pub few : number ≤ predicate_limit → number + length ps ≤ predicate_limit
  pub counted : size t ≡ length ps
  pub numbered : Numbered t number
  pub full : NonEmpty t
  pub each : Each (Fits tags q) ps

-- of the members read from `at` up to `end`
pub record ForestSound (tags q : List ℕ) (at end number : ℕ) (f : Forest ℕ) (ps : List Predicate) (next : ℕ) : Type 0 where
  pub past : at ≤ next
  pub inside : next ≡ end
  pub some : (at ≡ end → ⊥) → 1 ≤ length ps
  pub has : (at ≡ end → ⊥) → HasMember f
  pub few : number ≤ predicate_limit → number + length ps ≤ predicate_limit
  pub counted : sizes f ≡ length ps
  pub numbered : Numbereds f number
  pub full : NonEmpties f
  pub each : Each (Fits tags q) ps

abbrev pub SoundTree : (tags q : List ℕ) → (at end number : ℕ) → Read (Tree ℕ) → Type 0
SoundTree tags q at end number (refused e) = Unit {0}
SoundTree tags q at end number (accepted (t, ps, next)) = TreeSound tags q at end number t ps next

abbrev pub SoundForest : (tags q : List ℕ) → (at end number : ℕ) → Read (Forest ℕ) → Type 0
SoundForest tags q at end number (refused e) = Unit {0}
SoundForest tags q at end number (accepted (f, ps, next)) = ForestSound tags q at end number f ps next

operand_inside : (q : List ℕ) (start end : ℕ) → payload_head ≤ length (payload_at q start end)
    → start + payload_head + length (drop payload_head (payload_at q start end)) ≤ length q
unfolding payload_at
operand_inside q start end h =
    let a = length-take (end - start) (drop start q) in
    let b = length-drop start q in
    let d : length (take (end - start) (drop start q)) ≤ length q - start = omega arith in
    rw length-drop (omega arith)

module _ (tags q : List ℕ) where
  leaf_fits : (start end : ℕ) → start + payload_head ≤ end → valid_payload tags (payload_at q start end) ≡ true
      → Fits tags q (predicate_of (start + payload_head) (payload_at q start end))
  leaf_fits start end l v =
      let two = (valid_payload_lem tags (payload_at q start end) v).head in
      record {
        valid = rw (← (payload_parts (payload_at q start end) two)) v;
        inside = operand_inside q start end two;
        bytes = operand_bytes q start end l;
      }

  module _ (at end number : ℕ) where
    group_sound : (o : Read (Forest ℕ)) (tag start stop : ℕ) → at < start → start < stop → stop ≤ end → SoundForest tags q start stop number o
        → SoundTree tags q at end number (as_group tag o)
    unfolding size
    group_sound (refused e) tag start stop a b c s = tt
    group_sound (accepted (f, ps, next)) tag start stop a b c s =
        let n : start ≡ stop → ⊥ = λ e. omega arith in
        record {
          past = omega (arith, s.past);
          inside = omega (arith, s.inside);
          some = s.some n;
          few = s.few;
          counted = s.counted;
          numbered = s.numbered;
          full = (s.has n, s.full);
          each = s.each;
        }

    field_then_sound : (depth : ℕ) (h : Result MemberField Refusal) (go : ℕ → ℕ → Read (Forest ℕ)) → IfOk h (SoundField tags q at end depth number)
        → ((start stop : ℕ) → SoundForest tags q start stop number (go start stop)) → SoundTree tags q at end number (field_then q number h go)
    unfolding size
    field_then_sound depth (Err e) go s g = tt
    field_then_sound depth (Ok (field.Leaf start stop)) go s g = record {
      past = omega arith;
      inside = s.2;
      some = omega arith;
      few = λ l. omega arith;
      counted = refl;
      numbered = refl;
      full = tt;
      each = (leaf_fits start stop s.1 s.4, tt);
    }
    field_then_sound depth (Ok (field.Group tag start stop)) go s g =
        group_sound (go start stop) tag start stop (omega arith) s.1 s.2 (g start stop)

    more_sound : (t : Tree ℕ) (ps : List Predicate) (next : ℕ) (o : Read (Forest ℕ)) → TreeSound tags q at end number t ps next
        → SoundForest tags q next end (number + length ps) o → SoundForest tags q at end number (member_before t ps o)
    unfolding size
    more_sound t ps next (refused e) s r = tt
    more_sound t ps next (accepted (f, rest, last)) s r = record {
      past = omega (arith, s.past, r.past);
      inside = r.inside;
      some = λ n. rw length-append (omega (arith, s.some));
      has = λ n. tt;
      few = λ l. rw length-append (let a = s.few l in let b = r.few a in omega arith);
      counted = rw length-append (omega (arith, s.counted, r.counted));
      numbered = (s.numbered, rw s.counted r.numbered);
      full = (s.full, r.full);
      each = each_append (Fits tags q) ps rest s.each r.each;
    }

    member_then_sound : (o : Read (Tree ℕ)) (rest : List Predicate → ℕ → Read (Forest ℕ)) → SoundTree tags q at end number o
        → ((ps : List Predicate) (next : ℕ) → SoundForest tags q next end (number + length ps) (rest ps next))
        → SoundForest tags q at end number (member_then o rest)
    member_then_sound (refused e) rest s r = tt
    member_then_sound (accepted (t, ps, next)) rest s r = more_sound t ps next (rest ps next) s (r ps next)

    unless_end_sound : (b : Bool) (o : Read (Forest ℕ)) → eqb at end ≡ b → SoundForest tags q at end number o → SoundForest tags q at end number (unless_end b at o)
    unfolding size
    unless_end_sound true o e s =
        let z : at ≡ end = eqb-true at end e in
        record {
          past = omega arith;
          inside = z;
          some = λ n. absurd (n z);
          has = λ n. absurd (n z);
          few = λ l. omega arith;
          counted = refl;
          numbered = tt;
          full = tt;
          each = tt;
        }
    unless_end_sound false o e s = s

mutual
  unfolding member

  pub member_sound : (k : ℕ) (tags q : List ℕ) (at end depth : ℕ) (earlier : List Predicate)
      → SoundTree tags q at end (length earlier) (member k tags q at end depth earlier)
  member_sound zero tags q at end depth earlier = tt
  member_sound (suc k) tags q at end depth earlier =
      field_then_sound tags q at end (length earlier) depth (member_field tags q depth earlier (header_at q at end))
      (λ s e. members k tags q s e (depth + 1) earlier) (field_sound tags q at end depth earlier)
      (λ s e. members_sound k tags q s e (depth + 1) earlier)

  pub members_sound : (k : ℕ) (tags q : List ℕ) (at end depth : ℕ) (earlier : List Predicate)
      → SoundForest tags q at end (length earlier) (members k tags q at end depth earlier)
  members_sound zero tags q at end depth earlier = tt
  members_sound (suc k) tags q at end depth earlier =
      unless_end_sound tags q at end (length earlier) (eqb at end)
      (member_then (member k tags q at end depth earlier) (λ ps next. members k tags q next end depth (earlier ++ ps))) refl
      (member_then_sound tags q at end (length earlier) (member k tags q at end depth earlier) (λ ps next. members k tags q next end depth (earlier ++ ps))
      (member_sound k tags q at end depth earlier)
      (λ ps next. rw length-append at (members_sound k tags q next end depth (earlier ++ ps))))

-- the same of every accepted query: 1 to 64 predicates, numbered from 0, each within the query
pub decoded_sound : (tags q : List ℕ) (Q : Query) → decode_tagged tags q ≡ accepted Q → TreeSound tags q 0 (length q) 0 Q.tree Q.predicates (length q)
unfolding decode_tagged
decoded_sound tags q Q h = go (member (2 * length q + 1) tags q 0 (length q) 0 []) (member_sound (2 * length q + 1) tags q 0 (length q) 0 []) h
  where
    whole : (t : Tree ℕ) (ps : List Predicate) (next : ℕ) (b : Bool) → eqb next (length q) ≡ b → TreeSound tags q 0 (length q) 0 t ps next
        → cond b (accepted (record { tree = t; predicates = ps })) (refused bytes_after_query) ≡ accepted Q → TreeSound tags q 0 (length q) 0 Q.tree Q.predicates (length q)
    whole t ps next true e s i =
        let w : ◌≡◌ {A = Query} (record { tree = t; predicates = ps }) Q = cc in
        rw (← w) (rw (eqb-true next (length q) e) at s)
    whole t ps next false e s i = let z : ◌≡◌ {A = ℕ} 0 1 = cc in absurd (omega arith)

    go : (o : Read (Tree ℕ)) → SoundTree tags q 0 (length q) 0 o → whole_query q o ≡ accepted Q → TreeSound tags q 0 (length q) 0 Q.tree Q.predicates (length q)
    go (refused e) s i = let z : ◌≡◌ {A = ℕ} 0 1 = cc in absurd (omega arith)
    go (accepted (t, ps, next)) s i = whole t ps next (eqb next (length q)) refl s i
