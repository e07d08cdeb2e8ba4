-- Every query is accepted, or refused by 7 to 14, since the calls that bound a reading are always enough.
use Prim.Native.Nat.{ℕ, zero, suc, ◌+◌, ◌-◌, ◌*◌, ◌≤◌, ◌<◌}
use native.Mathlib.Omega.{arith}
use mathlib.Core.Path.{◌≡◌}
use mathlib.Core.Bool.{Bool, true, false, cond}
use mathlib.Core.List.{List, [], ◌++◌}
use lib.ListN.{length}
use lib.Dec.{eqb}
use Rattle.std.specs.Prelude.{Result, Ok, Err, IfOk}
use Rattle.fields.specs.Decoded.{Decoded, refused, accepted}
use Rattle.fields.specs.Header.{header_size, header_at}
use Rattle.catalogue.specs.Catalogue.{Catalogue}
use Rattle.predicate.specs.Meaning.{Predicate}
use Rattle.predicate.specs.Payload.{tags_of}
use Rattle.strategy.specs.Tree.{Tree, Forest}
use Rattle.query.specs.declared.member.MemberField.{MemberField}
use Rattle.query.specs.declared.member.MemberField.TheVariants as field
use Rattle.query.specs.declared.refusal.Refusal.{Refusal}
use Rattle.query.specs.Format.{bytes_after_query}
use Rattle.query.specs.Query.{Query}
use Rattle.query.specs.Refusal.{refusal_number_range}
use Rattle.query.specs.Sound.{IsRefusal, SoundField}
use Rattle.query.specs.Decode.{member_field, Read, as_group, field_then, member_before, member_then, unless_end, member, members, whole_query, decode_tagged, decode_query}
use Rattle.query.proofs.Fields.{field_sound}
use Rattle.query.proofs.Readings.{SoundTree, member_sound}

abbrev Stopping : {A : Type 0} → Read A → Type 0
Stopping (refused e) = IsRefusal e
Stopping (accepted (x, ps, next)) = Unit {0}

module _ (tags q : List ℕ) where
  group_stopping : (tag : ℕ) (o : Read (Forest ℕ)) → Stopping o → Stopping (as_group tag o)
  group_stopping tag (refused e) s = s
  group_stopping tag (accepted (f, ps, next)) s = tt

  field_stopping : (at end depth number : ℕ) (h : Result MemberField Refusal) (go : ℕ → ℕ → Read (Forest ℕ)) → IfOk h (SoundField tags q at end depth number)
      → ((start stop : ℕ) → start ≡ at + header_size → start < stop → stop ≤ end → Stopping (go start stop)) → Stopping (field_then q number h go)
  field_stopping at end depth number (Err e) go s g = refusal_number_range e
  field_stopping at end depth number (Ok (field.Leaf start stop)) go s g = tt
  field_stopping at end depth number (Ok (field.Group tag start stop)) go s g = group_stopping tag (go start stop) (g start stop s.0 s.1 s.2)

  before_stopping : (t : Tree ℕ) (ps : List Predicate) (o : Read (Forest ℕ)) → Stopping o → Stopping (member_before t ps o)
  before_stopping t ps (refused e) s = s
  before_stopping t ps (accepted (f, rest, next)) s = tt

  then_stopping : (at end number : ℕ) (o : Read (Tree ℕ)) (rest : List Predicate → ℕ → Read (Forest ℕ)) → Stopping o → SoundTree tags q at end number o
      → ((ps : List Predicate) (next : ℕ) → at < next → next ≤ end → Stopping (rest ps next)) → Stopping (member_then o rest)
  then_stopping at end number (refused e) rest s k r = s
  then_stopping at end number (accepted (t, ps, next)) rest s k r = before_stopping t ps (rest ps next) (r ps next k.past k.inside)

  end_stopping : (b : Bool) (at : ℕ) (o : Read (Forest ℕ)) → Stopping o → Stopping (unless_end b at o)
  end_stopping true at o s = tt
  end_stopping false at o s = s

mutual
  unfolding member

  member_stopping : (k : ℕ) (tags q : List ℕ) (at end depth : ℕ) (earlier : List Predicate) → 2 * (end - at) < k → Stopping (member k tags q at end depth earlier)
  member_stopping zero tags q at end depth earlier l = absurd (omega arith)
  member_stopping (suc k) tags q at end depth earlier l =
      field_stopping tags q at end depth (length earlier) (member_field tags q depth earlier (header_at q at end)) (λ s e. members k tags q s e (depth + 1) earlier)
      (field_sound tags q at end depth earlier)
      (λ s e x y z. members_stopping k tags q s e (depth + 1) earlier (omega arith))

  members_stopping : (k : ℕ) (tags q : List ℕ) (at end depth : ℕ) (earlier : List Predicate) → 2 * (end - at) + 1 < k → Stopping (members k tags q at end depth earlier)
  members_stopping zero tags q at end depth earlier l = absurd (omega arith)
  members_stopping (suc k) tags q at end depth earlier l =
      end_stopping tags q (eqb at end) at (member_then (member k tags q at end depth earlier) (λ ps next. members k tags q next end depth (earlier ++ ps)))
      (then_stopping tags q at end (length earlier) (member k tags q at end depth earlier) (λ ps next. members k tags q next end depth (earlier ++ ps))
      (member_stopping k tags q at end depth earlier (omega arith)) (member_sound k tags q at end depth earlier)
      (λ ps next x y. members_stopping k tags q next end depth (earlier ++ ps) (omega arith)))

abbrev QueryRefusing : Decoded Query → Type 0
QueryRefusing (refused e) = IsRefusal e
QueryRefusing (accepted Q) = Unit {0}

query_refusing : (C : Catalogue) (q : List ℕ) → QueryRefusing (decode_query C q)
unfolding decode_query decode_tagged
query_refusing C q =
    go (member (2 * length q + 1) (tags_of C) q 0 (length q) 0 []) (member_stopping (2 * length q + 1) (tags_of C) q 0 (length q) 0 [] (omega arith))
  where
    end : (x : Bool) (t : Tree ℕ) (ps : List Predicate) → QueryRefusing (cond x (accepted (record { tree = t; predicates = ps })) (refused bytes_after_query))
    end true t ps = tt
    end false t ps = omega arith

    go : (o : Read (Tree ℕ)) → Stopping o → QueryRefusing (whole_query q o)
    go (refused e) r = r
    go (accepted (t, ps, next)) r = end (eqb next (length q)) t ps

pub query_refusal : (C : Catalogue) (q : List ℕ) (e : ℕ) → decode_query C q ≡ refused e → (7 ≤ e) × (e ≤ 14)
query_refusal C q e h = rw h at (query_refusing C q)
