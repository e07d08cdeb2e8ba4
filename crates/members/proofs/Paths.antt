-- The paths of the code that reads a member's field, a condition's first.
use Prim.Native.Nat.{ℕ, ◌-◌, ◌≤◌, ◌<◌}
use mathlib.Core.Path.{◌≡◌}
use mathlib.Core.Bool.{Bool, true, false, or-true}
use mathlib.Core.Logic.{◌⊎◌, inl, inr}
use mathlib.Core.List.{List}
use lib.ListN.{take, drop}
use lib.Dec.{eqb}
use borrow.Author.Tests.{le-leb, lt-leb, eq-eqb, ne_eqb}
use Rattle.fields.specs.declared.header.Field.{Field}
use Rattle.std.specs.Prelude.{Option, None, Some, Result, Ok, Err, IfOk}
use Rattle.fields.specs.Header.{header_at}
use Rattle.predicate.specs.Payload.{valid_payload}
use Rattle.query.specs.declared.member.MemberField.{MemberField}
use Rattle.query.specs.declared.member.MemberField.TheVariants.{Leaf}
use Rattle.query.specs.declared.refusal.Refusal.{Refusal}
use Rattle.query.specs.declared.refusal.Refusal.TheVariants as refusal
use Rattle.query.specs.Format.{conjunction_tag, disjunction_tag, predicate_tag, predicate_limit}
use Rattle.query.specs.Decode.{payload_at, is_repeated, predicate_field, group_field, member_field}
use Rattle.records.specs.Table.{predicates_at}
use Rattle.query.specs.Sound.{SoundField}
use Rattle.records.proofs.Records.{predicates_length}
use Rattle.query.proofs.Fields.{field_sound}

module _ (tags q os : List ℕ) (n start end : ℕ) where
  pub predicate_many : predicate_limit ≤ n → Err refusal.TooManyPredicates ≡ predicate_field tags q (predicates_at q os n) start end
  unfolding predicate_field
  predicate_many l = rw (predicates_length q os n, le-leb _ _ l)

  module _ (few : n < predicate_limit) (v : Bool) (v-is : v ≡ valid_payload tags (take (end - start) (drop start q))) where
    pub predicate_invalid : v ≡ false → Err refusal.InvalidPayload ≡ predicate_field tags q (predicates_at q os n) start end
    unfolding predicate_field payload_at
    predicate_invalid e = rw (predicates_length q os n, lt-leb _ _ few, ← v-is, e)

    module _ (valid : v ≡ true) (r : Bool) (r-is : r ≡ is_repeated (take (end - start) (drop start q)) (predicates_at q os n)) where
      pub predicate_repeated : r ≡ true → Err refusal.RepeatedPayload ≡ predicate_field tags q (predicates_at q os n) start end
      unfolding predicate_field payload_at
      predicate_repeated e = rw (predicates_length q os n, lt-leb _ _ few, ← v-is, valid, ← r-is, e)

      pub predicate_leaf : r ≡ false → Ok (Leaf start end) ≡ predicate_field tags q (predicates_at q os n) start end
      unfolding predicate_field payload_at
      predicate_leaf e = rw (predicates_length q os n, lt-leb _ _ few, ← v-is, valid, ← r-is, e)

module _ (tags q os : List ℕ) (at end depth n : ℕ) where
  -- a field as it is said to be is sound
  pub field_is_sound : (r : Result MemberField Refusal) → r ≡ member_field tags q depth (predicates_at q os n) (header_at q at end) → IfOk r (SoundField tags q at end depth n)
  field_is_sound r i = rw i (rw (predicates_length q os n) at (field_sound tags q at end depth (predicates_at q os n)))

  module _ (h : Option Field) (h-is : h ≡ header_at q at end) where
    abbrev Is : Result MemberField Refusal → Type 0
    Is r = r ≡ member_field tags q depth (predicates_at q os n) (header_at q at end)

    pub field_cut_lem : h ≡ None → Is (Err refusal.MemberCut)
    unfolding member_field
    field_cut_lem e = rw (← h-is, e)

    module _ (f : Field) (is_field : h ≡ Some f) where
      pub field_predicate : (r : Result MemberField Refusal) → f.tag ≡ predicate_tag → r ≡ predicate_field tags q (predicates_at q os n) f.start f.end → Is r
      unfolding member_field
      field_predicate r e i = rw (← h-is, is_field, eq-eqb _ _ e) i

      module _ (no-predicate : f.tag ≡ predicate_tag → ⊥) where
        pub field_group : (r : Result MemberField Refusal) → (f.tag ≡ conjunction_tag) ⊎ (f.tag ≡ disjunction_tag) → r ≡ group_field depth f.tag f.start f.end → Is r
        unfolding member_field
        field_group r (inl e) i = rw (← h-is, is_field, ne_eqb _ _ no-predicate, eq-eqb f.tag conjunction_tag e) i
        field_group r (inr e) i = rw (← h-is, is_field, ne_eqb _ _ no-predicate, eq-eqb f.tag disjunction_tag e) (rw (or-true (eqb f.tag conjunction_tag)) i)

        pub field_unknown : (f.tag ≡ conjunction_tag → ⊥) → (f.tag ≡ disjunction_tag → ⊥) → Is (Err refusal.UnknownTag)
        unfolding member_field
        field_unknown k l = rw (← h-is, is_field, ne_eqb _ _ no-predicate, ne_eqb _ _ k, ne_eqb _ _ l)
