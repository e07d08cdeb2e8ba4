-- A query's bytes as values; the checks in document 01's order, front to back, the first that fails decides.
use Rattle.std.specs.Prelude.{ℕ, zero, suc, ◌+◌, ◌-◌, ◌*◌, Bool, true, false, ◌||◌, cond, List, [], ◌∷◌, ◌++◌, length, take, drop, leb, eqb, Option, None, Some, Result, Ok, Err}
use Rattle.fields.specs.declared.header.Field.{Field}
use Rattle.fields.specs.Decoded.{Decoded, refused, accepted, mapped, and_then}
use Rattle.fields.specs.Header.{header_at}
use Rattle.catalogue.specs.Catalogue.{Catalogue}
use Rattle.strategy.specs.Tree.{Tree, leaf, group, Forest, none, more}
use Rattle.predicate.specs.Meaning.{Predicate, same}
use Rattle.predicate.specs.Payload.{tags_of, valid_payload, predicate_of, payload_head}
use Rattle.query.specs.declared.member.MemberField.{MemberField}
use Rattle.query.specs.declared.member.MemberField.TheVariants as field
use Rattle.query.specs.declared.refusal.Refusal.{Refusal}
use Rattle.query.specs.declared.refusal.Refusal.TheVariants as refusal
use Rattle.query.specs.Refusal.{refusal_number}
use Rattle.query.specs.Format.{conjunction_tag, disjunction_tag, predicate_tag, predicate_limit, depth_limit, bytes_after_query}
use Rattle.query.specs.Query.{Query}

-- the bytes of a payload
unfoldable pub payload_at : List ℕ → (start end : ℕ) → List ℕ
payload_at q start end = take (end - start) (drop start q)

-- a predicate's payload again: "column byte, kind byte, operand"
abbrev pub payload_of : Predicate → List ℕ
payload_of p = p.column ∷ p.kind ∷ p.operand

unfoldable pub is_repeated : (payload : List ℕ) → (earlier : List Predicate) → Bool
is_repeated payload [] = false
is_repeated payload (p ∷ ps) = same payload (payload_of p) || is_repeated payload ps

-- "Condition: 12, .. 11, .. 13, .."
unfoldable pub predicate_field : (tags q : List ℕ) → (earlier : List Predicate) → (start end : ℕ) → Result MemberField Refusal
predicate_field tags q earlier start end =
    cond (leb predicate_limit (length earlier)) (Err refusal.TooManyPredicates)
    (cond (valid_payload tags (payload_at q start end))
    (cond (is_repeated (payload_at q start end) earlier) (Err refusal.RepeatedPayload) (Ok (field.Leaf start end)))
    (Err refusal.InvalidPayload))

-- "Group: 10, deeper than 8; 9, empty"; `depth` groups enclose it
unfoldable pub group_field : (depth tag start end : ℕ) → Result MemberField Refusal
group_field depth tag start end =
    cond (leb depth_limit depth) (Err refusal.TooDeep) (cond (eqb start end) (Err refusal.EmptyGroup) (Ok (field.Group tag start end)))

-- "At each field: 7, .. 8, .."
unfoldable pub member_field : (tags q : List ℕ) → (depth : ℕ) → (earlier : List Predicate) → Option Field → Result MemberField Refusal
member_field tags q depth earlier None = Err refusal.MemberCut
member_field tags q depth earlier (Some f) =
    cond (eqb f.tag predicate_tag) (predicate_field tags q earlier f.start f.end)
    (cond (eqb f.tag conjunction_tag || eqb f.tag disjunction_tag) (group_field depth f.tag f.start f.end) (Err refusal.UnknownTag))

-- what a reading gives: a value, the predicates read and the place after them
abbrev pub Read : Type 0 → Type 0
Read A = Decoded (A × List Predicate × ℕ)

-- the outcome that settles a group: no for all-of, yes for any-of
abbrev pub settling_of : (tag : ℕ) → Bool
settling_of tag = eqb tag disjunction_tag

abbrev pub as_group : (tag : ℕ) → Read (Forest ℕ) → Read (Tree ℕ)
as_group tag r = mapped (λ (f, ps, next). (group (settling_of tag) f, ps, next)) r

-- a member, from its field; its number is how many predicates stand before it
abbrev pub field_then : (q : List ℕ) → (number : ℕ) → Result MemberField Refusal → (ℕ → ℕ → Read (Forest ℕ)) → Read (Tree ℕ)
field_then q number (Err e) members = refused (refusal_number e)
field_then q number (Ok (field.Leaf start end)) members = accepted (leaf number, predicate_of (start + payload_head) (payload_at q start end) ∷ [], end)
field_then q number (Ok (field.Group tag start end)) members = as_group tag (members start end)

abbrev pub member_before : Tree ℕ → List Predicate → Read (Forest ℕ) → Read (Forest ℕ)
member_before t ps r = mapped (λ (f, rest, next). (more t f, ps ++ rest, next)) r

abbrev pub member_then : Read (Tree ℕ) → (List Predicate → ℕ → Read (Forest ℕ)) → Read (Forest ℕ)
member_then r rest = and_then r (λ (t, ps, next). member_before t ps (rest ps next))

abbrev pub unless_end : Bool → (at : ℕ) → Read (Forest ℕ) → Read (Forest ℕ)
unless_end true at r = accepted (none, [], at)
unless_end false at r = r

-- a member, and the members up to an end: "A group holds members and a member may be a group again".
-- The first argument bounds the calls; twice the bytes left is always enough.
unfoldable mutual
  pub member : ℕ → (tags q : List ℕ) → (at end depth : ℕ) → (earlier : List Predicate) → Read (Tree ℕ)
  member zero tags q at end depth earlier = refused 0
  member (suc k) tags q at end depth earlier =
      field_then q (length earlier) (member_field tags q depth earlier (header_at q at end)) (λ s e. members k tags q s e (depth + 1) earlier)

  pub members : ℕ → (tags q : List ℕ) → (at end depth : ℕ) → (earlier : List Predicate) → Read (Forest ℕ)
  members zero tags q at end depth earlier = refused 0
  members (suc k) tags q at end depth earlier =
      unless_end (eqb at end) at (member_then (member k tags q at end depth earlier) (λ ps next. members k tags q next end depth (earlier ++ ps)))

-- "The question is one field of these"; "At the end: 14, bytes left over"
abbrev pub whole_query : List ℕ → Read (Tree ℕ) → Decoded Query
whole_query q r = and_then r (λ (t, ps, next). cond (eqb next (length q)) (accepted (record { tree = t; predicates = ps })) (refused bytes_after_query))

-- a question against a catalogue whose columns have these tags
unfoldable pub decode_tagged : (tags q : List ℕ) → Decoded Query
decode_tagged tags q = whole_query q (member (2 * length q + 1) tags q 0 (length q) 0 [])

unfoldable pub decode_query : Catalogue → List ℕ → Decoded Query
decode_query c q = decode_tagged (tags_of c) q
