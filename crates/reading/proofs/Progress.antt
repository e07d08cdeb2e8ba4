-- How a reading goes on from what its parts answer: a law for each path of the code.
use Prim.Native.Nat.{ℕ, zero, suc, ◌+◌, ◌-◌, ◌*◌, ◌≤◌, ◌<◌}
use native.Mathlib.Nat.{add_assoc, add-zero}
use native.Mathlib.Omega.{arith}
use mathlib.Core.Path.{◌≡◌, refl, ap, ◌∙◌}
use mathlib.Core.Logic.{◌⊎◌, inl, inr}
use mathlib.Core.Bool.{true, false, cond}
use mathlib.Core.List.{List, [], ◌∷◌, ◌++◌, append_assoc, append-nil}
use lib.ListN.{length, set, length-append, length-set}
use lib.Dec.{ltb}
use Rattle.std.specs.Prelude.{Result, Ok, Err}
use Rattle.fields.specs.Decoded.{refused, accepted}
use Rattle.fields.specs.Header.{header_at, header_size, field_end}
use Rattle.fields.proofs.Tests.{tests}
use Rattle.bools.specs.Bools.{which, ltb_lt, ltb_le}
use Rattle.strategy.specs.Tree.{Tree, leaf, group, Forest, none, more, size, sizes, InSpan}
use Rattle.strategy.specs.Propagation.{enclosing, enclosing_in}
use Rattle.predicate.specs.Meaning.{Predicate}
use Rattle.predicate.specs.Payload.{predicate_of, payload_head}
use Rattle.query.specs.declared.member.MemberField.{MemberField}
use Rattle.query.specs.declared.member.MemberField.TheVariants as field
use Rattle.reading.specs.declared.member.Progress.{Progress}
use Rattle.query.specs.declared.refusal.Refusal.{Refusal}
use Rattle.query.specs.Format.{predicate_limit, depth_limit, depth_of}
use Rattle.query.specs.Decode.{payload_at, member_field, Read, settling_of, as_group, member_before, member_then, member, members}
use Rattle.records.specs.Offsets.{HasPayload}
use Rattle.records.specs.Table.{predicates_at}
use Rattle.reading.specs.declared.tables.Tables.{Tables}
use Rattle.reading.specs.Tables.{tables, HasTables}
use Rattle.ancestors.specs.Ancestors.{ancestors_width, height_at, ancestor_over, ancestors_of, Low, Under, SameHeights, Spans, Closed}
use Rattle.reading.specs.MemberRead.{progress, AncestorsGained, Reported, MemberReported, MembersReported, MemberRead, MembersRead, StaysWithin, Readable}
use Rattle.records.proofs.Records.{predicates_put, payload_put, record_shows}
use Rattle.ancestors.proofs.AncestorLaws.{fresh_height, fresh_kept, fresh_none, fresh_old, fresh_low, fresh_spans}
use Rattle.query.proofs.Readings.{SoundTree, SoundForest, member_sound, members_sound}

-- a group more around, a group less allowed
pub deeper_by_one : (allowed : ℕ) → depth_of allowed < depth_limit → allowed ≤ depth_limit → depth_of (allowed - 1) ≡ depth_of allowed + 1
deeper_by_one allowed l h = omega arith

-- ancestors

gained_more : (n k l : ℕ) (t : Tree ℕ) (f : Forest ℕ) (T T1 T2 : Tables) → size t ≡ k → AncestorsGained n k (enclosing t n) T T1
    → AncestorsGained (n + k) l (enclosing_in f (n + k)) T1 T2 → AncestorsGained n (k + l) (enclosing_in (more t f) n) T T2
unfolding enclosing
gained_more n k l t f T T1 T2 e A B = record {
  old = λ c h. B.old c (omega arith) ∙ A.old c h;
  new = λ c i. go c i (which (ltb c (n + size t)));
}
  where
    go : (c : ℕ) → InSpan n (k + l) c → (ltb c (n + size t) ≡ true) ⊎ (ltb c (n + size t) ≡ false)
        → ancestors_of T2.ancestors c ≡ cond (ltb c (n + size t)) (enclosing t n c) (enclosing_in f (n + size t) c)
    go c i (inl z) = let h : c < n + size t = ltb_lt c (n + size t) z in rw z (B.old c (omega arith) ∙ A.new c (omega arith))
    go c i (inr z) = let h : n + size t ≤ c = ltb_le c (n + size t) z in rw (z, e) (B.new c (omega arith))

gained_group : (n k tag : ℕ) (f : Forest ℕ) (T T1 T2 : Tables) → sizes f ≡ k → AncestorsGained n k (enclosing_in f n) T T1
    → Closed n (n + k) (n + k) tag T1.ancestors T2.ancestors → AncestorsGained n k (enclosing (group (settling_of tag) f) n) T T2
unfolding enclosing
gained_group n k tag f T T1 T2 e A C = record {
  old = λ c h. C.before c h ∙ A.old c h;
  new = λ c i.
      let w : (n + k) - n ≡ k = omega arith in
      rw e (rw w at (C.inside c i.0 i.1 ∙ ap (λ l. l ++ (ancestor_over n (n + k) tag ∷ [])) (A.new c i)));
}

gained_none : (n : ℕ) (T : Tables) → AncestorsGained n 0 (enclosing_in none n) T T
gained_none n T = record { old = λ c h. refl; new = λ c i. absurd (omega arith) }

gained_leaf : (os os' A : List ℕ) (n d : ℕ) → ancestors_width * n < length A → Low n A
    → AncestorsGained n 1 (enclosing (leaf d) n) (tables os A) (tables os' (set A (ancestors_width * n) 0))
unfolding enclosing
gained_leaf os os' A n d h l = record {
  old = fresh_old A n h l;
  new = λ c i. (let z : c ≡ n = omega arith in rw z (fresh_none A n h l));
}

-- answers

module _ (q : List ℕ) (n : ℕ) (T T1 T2 : Tables) where
  put_reported : (o : Read (Forest ℕ)) (t : Tree ℕ) (ps : List Predicate) (r : Result Progress Refusal) → size t ≡ length ps
      → predicates_at q T1.offsets (n + length ps) ≡ predicates_at q T.offsets n ++ ps → AncestorsGained n (length ps) (enclosing t n) T T1
      → Reported q enclosing_in (n + length ps) o r T1 T2 → Reported q enclosing_in n (member_before t ps o) r T T2
  put_reported (refused e) t ps r s a A b = b
  put_reported (accepted (f, rest, next)) t ps r s a A b = record {
    answer = simp (length-append, ← add_assoc) b.answer;
    shown = simp (length-append, ← add_assoc, ← append_assoc) (b.shown ∙ ap (λ l. l ++ rest) a);
    ancestors = simp length-append (gained_more n (length ps) (length rest) t f T T1 T2 s A b.ancestors);
  }

  then_reported : (tags : List ℕ) (at end number : ℕ) (o : Read (Tree ℕ)) (p m : ℕ) (r : Result Progress Refusal) (go : List Predicate → ℕ → Read (Forest ℕ))
      → SoundTree tags q at end number o → Reported q enclosing n o (progress p m) T T1
      → Reported q enclosing_in m (go (predicates_at q T1.offsets m) p) r T1 T2 → Reported q enclosing_in n (member_then o (λ ps next. go (predicates_at q T.offsets n ++ ps) next)) r T T2
  then_reported tags at end number (refused e) p m r go s h l = absurd h
  then_reported tags at end number (accepted (t, ps, next)) p m r go s h l =
      let z : p ≡ next = h.answer.0 in
      let y : m ≡ n + length ps = h.answer.1 in
      put_reported (go (predicates_at q T.offsets n ++ ps) next) t ps r s.counted h.shown h.ancestors (rw (z, y, h.shown) at l)

  then_refused : (o : Read (Tree ℕ)) (e : Refusal) (go : List Predicate → ℕ → Read (Forest ℕ)) → Reported q enclosing n o (Err e) T T1 → Reported q enclosing_in n (member_then o go) (Err e) T T1
  then_refused (refused x) e go h = h
  then_refused (accepted (t, ps, next)) e go h = absurd h.answer

  group_refused : (o : Read (Forest ℕ)) (tag : ℕ) (e : Refusal) → Reported q enclosing_in n o (Err e) T T1 → Reported q enclosing n (as_group tag o) (Err e) T T2
  group_refused (refused x) tag e h = h
  group_refused (accepted (f, ps, next)) tag e h = absurd h.answer

  group_reported : (tags : List ℕ) (at end number : ℕ) (o : Read (Forest ℕ)) (tag p m : ℕ) → SoundForest tags q at end number o → Reported q enclosing_in n o (progress p m) T T1
      → T2.offsets ≡ T1.offsets → Closed n m m tag T1.ancestors T2.ancestors → Reported q enclosing n (as_group tag o) (progress p m) T T2
  group_reported tags at end number (refused x) tag p m s h a C = absurd h
  group_reported tags at end number (accepted (f, ps, next)) tag p m s h a C =
      let y : m ≡ n + length ps = h.answer.1 in
      record {
        answer = h.answer;
        shown = rw a h.shown;
        ancestors = gained_group n (length ps) tag f T T1 T2 s.counted h.ancestors (rw y at C);
      }

-- the paths of `read_group`

module _ (tags q : List ℕ) (at end depth n : ℕ) (T T1 : Tables) where
  pub members_end : at ≡ end → MembersReported tags q at end depth n (progress at n) T T
  unfolding members
  members_end e zero l = absurd (omega arith)
  members_end e (suc k) l = simp tests (record { answer = (refl, simp add-zero); shown = simp (add-zero, append-nil); ancestors = gained_none n T })

  pub members_refused : (e : Refusal) → (at ≡ end → ⊥) → MemberReported tags q at end depth n (Err e) T T1 → MembersReported tags q at end depth n (Err e) T T1
  unfolding members
  members_refused e ne h zero l = absurd (omega arith)
  members_refused e ne h (suc k) l =
      simp tests (then_refused q n T T1 T1 (member k tags q at end depth (predicates_at q T.offsets n)) e
      (λ ps next. members k tags q next end depth (predicates_at q T.offsets n ++ ps)) (h k (omega arith)))

  pub members_more : (p m : ℕ) (r : Result Progress Refusal) (T2 : Tables) → (at ≡ end → ⊥) → at < p → p ≤ end → MemberReported tags q at end depth n (progress p m) T T1
      → MembersReported tags q p end depth m r T1 T2 → MembersReported tags q at end depth n r T T2
  unfolding members
  members_more p m r T2 ne b e h g zero l = absurd (omega arith)
  members_more p m r T2 ne b e h g (suc k) l =
      simp tests (then_reported q n T T1 T2 tags at end (length (predicates_at q T.offsets n)) (member k tags q at end depth (predicates_at q T.offsets n)) p m r
      (λ earlier next. members k tags q next end depth earlier) (member_sound k tags q at end depth (predicates_at q T.offsets n)) (h k (omega arith)) (g k (omega arith)))

  -- the paths of `read_member`

  module _ (f : Result MemberField Refusal) (f-is : f ≡ member_field tags q depth (predicates_at q T.offsets n) (header_at q at end)) where
    pub member_refused : (e : Refusal) → f ≡ Err e → MemberReported tags q at end depth n (Err e) T T1
    unfolding member
    member_refused e j zero l = absurd (omega arith)
    member_refused e j (suc k) l = simp (← f-is, j)

    module _ (tag start stop : ℕ) (is-group : f ≡ Ok (field.Group tag start stop)) (after : start ≡ at + header_size) (order : start < stop) (within : stop ≤ end)
        (inner : ℕ) (deeper : inner ≡ depth + 1) where
      pub member_group_refused : (e : Refusal) → MembersReported tags q start stop inner n (Err e) T T1 → MemberReported tags q at end depth n (Err e) T T1
      unfolding member
      member_group_refused e g zero l = absurd (omega arith)
      member_group_refused e g (suc k) l =
          simp (← f-is, is-group) (group_refused q n T T1 T1 (members k tags q start stop (depth + 1) (predicates_at q T.offsets n)) tag e (rw deeper at (g k (omega arith))))

      pub member_group : (p m : ℕ) (T2 : Tables) → MembersReported tags q start stop inner n (progress p m) T T1 → T2.offsets ≡ T1.offsets
          → Closed n m m tag T1.ancestors T2.ancestors → MemberReported tags q at end depth n (progress p m) T T2
      unfolding member
      member_group p m T2 g c C zero l = absurd (omega arith)
      member_group p m T2 g c C (suc k) l =
          simp (← f-is, is-group) (group_reported q n T T1 T2 tags start stop (length (predicates_at q T.offsets n)) (members k tags q start stop (depth + 1) (predicates_at q T.offsets n)) tag p m
          (members_sound k tags q start stop (depth + 1) (predicates_at q T.offsets n)) (rw deeper at (g k (omega arith))) c C)

module _ (tags q : List ℕ) (at end depth n : ℕ) (os A : List ℕ) (start stop : ℕ) (begins : start ≡ at + header_size) (ends : stop ≡ field_end q at)
    (two : start + payload_head ≤ stop) (free : n < length os) (line : ancestors_width * n < length A) (low : Low n A) where
  leaf_predicates : predicates_at q (set os n at) (n + 1) ≡ predicates_at q os n ++ (predicate_of (start + payload_head) (payload_at q start stop) ∷ [])
  leaf_predicates =
      rw (begins, ends) (predicates_put q os n at free ∙ ap (λ p. predicates_at q os n ++ (p ∷ [])) (record_shows q (at + header_size) (field_end q at) (omega arith)))

  pub member_leaf : (f : Result MemberField Refusal) → f ≡ member_field tags q depth (predicates_at q os n) (header_at q at end) → f ≡ Ok (field.Leaf start stop)
      → MemberReported tags q at end depth n (progress stop (n + 1)) (tables os A) (tables (set os n at) (set A (ancestors_width * n) 0))
  unfolding member
  member_leaf f i j zero l = absurd (omega arith)
  member_leaf f i j (suc k) l =
      simp (← i, j) (record {
        answer = (refl, refl);
        shown = leaf_predicates;
        ancestors = gained_leaf os (set os n at) A n (length (predicates_at q os n)) line low;
      })

  pub leaf_within : stop ≤ end → end ≤ length q → n < predicate_limit → depth ≤ depth_limit → ((c : ℕ) → c < n → HasPayload q os c) → Spans n A → HasTables (tables os A)
      → StaysWithin (at + header_size) end depth n q (progress stop (n + 1)) (tables os A) (tables (set os n at) (set A (ancestors_width * n) 0))
  leaf_within b e c d p s sized = record {
    past = omega arith;
    inside = b;
    more = omega arith;
    few = omega arith;
    each = payload_put q os n at free p (omega arith) (omega arith);
    low = fresh_low A n line low;
    under = λ k i j. (let z : k ≡ n = omega arith in rw z (rw (fresh_height A n line low) (omega arith)));
    kept = fresh_kept A n line low;
    spans = fresh_spans A n line low s;
    sized = record { offsets = length-set os n at ∙ sized.offsets; ancestors = length-set A (ancestors_width * n) 0 ∙ sized.ancestors };
  }

-- bounds

pub group_within : (q : List ℕ) (at end depth inner n start stop p m tag : ℕ) (T0 : Tables) (os A A' : List ℕ) → start ≡ at + header_size → stop ≤ end
    → inner ≡ depth + 1 → StaysWithin start stop inner n q (progress p m) T0 (tables os A) → Closed n m m tag A A' → length A' ≡ length A
    → StaysWithin (at + header_size) end depth n q (progress p m) T0 (tables os A')
group_within q at end depth inner n start stop p m tag T0 os A A' a b deeper w C same = record {
  past = omega (arith, w.past);
  inside = omega (arith, w.inside);
  more = w.more;
  few = w.few;
  each = w.each;
  low = C.low;
  under = λ k i j. (let u = w.under k i j in let t = C.taller k i j in omega arith);
  kept = λ k i. C.same_before k i ∙ w.kept k i;
  spans = C.spans;
  sized = record { offsets = w.sized.offsets; ancestors = same ∙ w.sized.ancestors };
}

under_more : (n m y d : ℕ) (A A' : List ℕ) → Under n m d A → Under m y d A' → SameHeights m A A' → Under n y d A'
under_more n m y d A A' a b e c i j = go (which (ltb c m))
  where
    go : (ltb c m ≡ true) ⊎ (ltb c m ≡ false) → height_at A' c + d ≤ depth_limit
    go (inl z) = let h : c < m = ltb_lt c m z in rw (e c h) (a c i h)
    go (inr z) = b c (ltb_le c m z) j

-- where the loop over a group's members stands: those before `p` are read, and whatever the rest gives, the whole gives
pub record InGroup (tags q : List ℕ) (at end allowed n p m : ℕ) (T0 T : Tables) : Type 0 where
  pub past : at ≤ p
  pub more : n ≤ m
  pub room : Readable p end allowed m q T
  pub under : Under n m (depth_of allowed) T.ancestors
  pub kept : SameHeights n T0.ancestors T.ancestors
  pub rest : (r : Result Progress Refusal) (T' : Tables) → MembersReported tags q p end (depth_of allowed) m r T T' → MembersReported tags q at end (depth_of allowed) n r T0 T'

pub in_group_none : (tags q : List ℕ) (at end allowed n : ℕ) (T : Tables) → Readable at end allowed n q T → InGroup tags q at end allowed n at n T T
in_group_none tags q at end allowed n T R = record {
  past = omega arith;
  more = omega arith;
  room = R;
  under = λ c i j. absurd (omega arith);
  kept = λ c i. refl;
  rest = λ r T' h. h;
}

module _ (tags q : List ℕ) (at end allowed n p m : ℕ) (T0 T : Tables) (G : InGroup tags q at end allowed n p m T0 T) where
  pub in_group_end : end ≤ p → MembersRead tags q at end (depth_of allowed) n (progress p m) T0 T
  in_group_end l =
      let z : p ≡ end = omega (arith, G.room.order) in
      record {
        within = record {
          past = G.past;
          inside = G.room.order;
          more = G.more;
          few = G.room.located.few;
          each = G.room.located.each;
          low = G.room.low;
          under = G.under;
          kept = G.kept;
          spans = G.room.spans;
          sized = record { offsets = G.room.located.sized; ancestors = G.room.ancestors };
        };
        exact = G.rest (progress p m) T (members_end tags q p end (depth_of allowed) m T T z);
      }

  module _ (T1 : Tables) (left : p < end) where
    pub in_group_refused : (e : Refusal) → MemberRead tags q p end (depth_of allowed) m (Err e) T T1 → MembersRead tags q at end (depth_of allowed) n (Err e) T0 T1
    in_group_refused e h = record {
      within = h.within;
      exact = G.rest (Err e) T1 (members_refused tags q p end (depth_of allowed) m T T1 e (λ z. omega arith) h.exact);
    }

    pub in_group_more : (next k : ℕ) → MemberRead tags q p end (depth_of allowed) m (progress next k) T T1 → InGroup tags q at end allowed n next k T0 T1
    in_group_more next k h =
        let w = h.within in
        record {
          past = omega (arith, G.past, w.past);
          more = omega (arith, G.more, w.more);
          room = record {
            order = w.inside;
            inside = G.room.inside;
            deep = G.room.deep;
            located = record { sized = w.sized.offsets; few = w.few; each = w.each };
            ancestors = w.sized.ancestors;
            low = w.low;
            spans = w.spans;
          };
          under = under_more n m k (depth_of allowed) T.ancestors T1.ancestors G.under w.under w.kept;
          kept = λ c i. w.kept c (omega (arith, G.more)) ∙ G.kept c i;
          rest = λ r T' g.
              G.rest r T' (members_more tags q p end (depth_of allowed) m T T1 next k r T' (λ z. omega arith) (omega (arith, w.past)) w.inside h.exact g);
        }
