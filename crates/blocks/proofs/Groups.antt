-- One group at every row of a block: words taken apart bit by bit.
use Prim.Native.Nat.{ℕ, zero, suc, ◌+◌, ◌-◌, ◌≤◌, ◌<◌}
use native.Mathlib.Omega.{arith}
use mathlib.Core.Path.{◌≡◌, refl, sym, ap, ap₂, ◌∙◌, fun_ext}
use mathlib.Core.Bool.{Bool, true, false, ◌&&◌, ◌||◌, not, cond}
use mathlib.Core.Logic.{◌⊎◌, inl, inr}
use mathlib.Core.List.{List}
use lib.ListN.{length, length-set, get_or, set, take, drop}
use lib.Seq.{get_or-set_same, get_or-set_other}
use lib.Bits.{bit_and, bit_or}
use Rattle.std.proofs.Common.{zero-add, add-zero, add-suc, suc-add, length-append, length-take, length-drop}
use Rattle.std.proofs.lemmas.Grind.{common_steps}
use borrow.Rule.Slice.PartMut.{put_mid}
use lib.Dec.{ltb}
use Rattle.bools.specs.Bools.{which, clash, ltb_lt, ltb_le, iff_eq, or_left, or_right, or_cases, same?}
use Rattle.strategy.specs.Tree.{settles, InSpan}
use Rattle.strategy.proofs.TreeLaws.{settles_yes, settles_no}
use Rattle.strategy.specs.Live.{Live, Step, in_span, without, meets, through}
use Rattle.strategy.proofs.LiveLaws.{in_span_yes, in_span_of, in_span_no, meets_gives, meets_yes, meets_no, through_settles, through_asks, through_stopped}
use Rattle.strategy.specs.Propagation.{Ancestor}
use Rattle.sets.specs.Set.{has, set_minus}
use Rattle.sets.specs.SetLaws.{has_and, has_or, has_none, minus_has, minus_and}
use Rattle.blocks.specs.Block.{row_live, row_step, TakenOut, StillActiveIs, SettledRows, Passed}

-- WHERE A GROUP IS LIVE

-- live at the same of n places, wherever these begin
meets_same : (a b n : ℕ) (l m : Live) → ((k : ℕ) → k < n → l (a + k) ≡ m (b + k)) → meets a n l ≡ meets b n m
unfolding meets
meets_same a b zero l m same = refl
meets_same a b (suc n) l m same =
    ap₂ (λ (p q : Bool). p || q) (rw (add-zero a, add-zero b) at (same 0 (omega arith)))
    (meets_same (suc a) (suc b) n l m (λ k h. rw (suc-add a k, suc-add b k) (rw (add-suc a k, add-suc b k) at (same (suc k) (omega arith)))))

meets_more : (a n : ℕ) (l : Live) → meets a (n + 1) l ≡ (meets a n l || l (a + n))
meets_more a n l =
    iff_eq (meets a (n + 1) l) (meets a n l || l (a + n))
    (λ y. (let r = meets_gives a (n + 1) l y in from r.0 r.1 r.2 (same? r.0 (a + n))))
    (λ y. to (or_cases (meets a n l) (l (a + n)) y))
  where
    from : (k : ℕ) → InSpan a (n + 1) k → l k ≡ true → (k ≡ a + n) ⊎ (k ≡ a + n → ⊥) → (meets a n l || l (a + n)) ≡ true
    from k i y (inl z) = or_right (meets a n l) (ap l (sym z) ∙ y)
    from k i y (inr ne) = or_left (l (a + n)) (meets_yes a n l k (omega arith) y)

    to : (meets a n l ≡ true) ⊎ (l (a + n) ≡ true) → meets a (n + 1) l ≡ true
    to (inl y) = let r = meets_gives a n l y in let i = r.1 in meets_yes a (n + 1) l r.0 (omega arith) r.2
    to (inr y) = meets_yes a (n + 1) l (a + n) (omega arith) y

-- THE LOOP OVER THE WORDS OF A GROUP, as a list of their own

pub none_out : (gone : ℕ) (L : List ℕ) → TakenOut 0 0 gone 0 L L
none_out gone L = record {
  size = refl;
  words = λ q d. rw (in_span_no 0 0 q (λ r. omega arith));
  meeting = λ d. has_none d ∙ sym (meets_no 0 0 (row_live L d) (λ k r. absurd (omega arith)));
}

-- the word of c, whose rest is x
module _ (c gone left x : ℕ) (L N : List ℕ) (h : c < length N) (e : x ≡ set_minus (get_or N c 0) gone) (T : TakenOut 0 c gone left L N) where
  off_c : (k : ℕ) → (k ≡ c → ⊥) → in_span 0 c k ≡ in_span 0 (c + 1) k
  off_c k ne =
      iff_eq (in_span 0 c k) (in_span 0 (c + 1) k)
      (λ y. (let r = in_span_of 0 c k y in in_span_yes 0 (c + 1) k (omega arith)))
      (λ y. (let r = in_span_of 0 (c + 1) k y in in_span_yes 0 c k (omega arith)))

  same_at : (d : ℕ) → row_live (set N c x) d c ≡ has x d
  same_at d = ap (λ (z : ℕ). has z d) (get_or-set_same N c x 0 h)

  same_off : (k d : ℕ) → (k ≡ c → ⊥) → row_live (set N c x) d k ≡ row_live N d k
  same_off k d ne = ap (λ (z : ℕ). has z d) (get_or-set_other N c k x 0 ne)

  words_next : (k d : ℕ) → (k ≡ c) ⊎ (k ≡ c → ⊥) → row_live (set N c x) d k ≡ cond (in_span 0 (c + 1) k && has gone d) false (row_live L d k)
  words_next k d (inl q) =
      rw (q, same_at d, in_span_yes 0 (c + 1) c (omega arith), e)
      (minus_has (get_or N c 0) gone d
      ∙ ap (λ (b : Bool). cond (has gone d) false b)
      (T.words c d ∙ ap (λ (b : Bool). cond (b && has gone d) false (row_live L d c)) (in_span_no 0 c c (λ r. omega arith))))
  words_next k d (inr ne) = rw (same_off k d ne, ← off_c k ne) (T.words k d)

  meeting_next : (d : ℕ) → meets 0 (c + 1) (row_live (set N c x) d) ≡ (has left d || has x d)
  meeting_next d =
      rw zero-add at (meets_more 0 c (row_live (set N c x) d))
      ∙ ap₂ (λ (p q : Bool). p || q)
      (meets_same 0 0 c (row_live (set N c x) d) (row_live N d) (λ k l. rw zero-add (same_off k d (λ z. omega arith))) ∙ sym (T.meeting d)) (same_at d)

  pub out_next : TakenOut 0 (c + 1) gone (bit_or left x) L (set N c x)
  out_next = record {
    size = length-set N c x ∙ T.size;
    words = λ k d. words_next k d (same? k c);
    meeting = λ d. has_or left x d ∙ sym (meeting_next d);
  }

-- the part of n words from a on: its length, and a word of it
pub part_length : (a n : ℕ) (L : List ℕ) → a + n ≤ length L → length (take n (drop a L)) ≡ n
part_length a n L h = simp (length-take, length-drop) (omega arith)

part_word : (a n k : ℕ) (L : List ℕ) → k < n → get_or (take n (drop a L)) k 0 ≡ get_or L (a + k) 0
part_word a n k L l = grind (arith, common_steps)

-- put back among the words, from a on
module _ (a n gone left : ℕ) (L N : List ℕ) (fits : a + n ≤ length L) (T : TakenOut 0 n gone left (take n (drop a L)) N) where
  abbrev whole : List ℕ
  whole = put_mid a n L N

  part_size : length N ≡ n
  part_size = T.size ∙ part_length a n L fits

  within : (k : ℕ) → k < n → get_or whole (a + k) 0 ≡ get_or N k 0
  within k l = let s = part_size in grind (arith, common_steps)

  outside : (c : ℕ) → (InSpan a n c → ⊥) → get_or whole c 0 ≡ get_or L c 0
  outside c off = go (which (ltb c a)) (which (ltb c (a + n)))
    where
      go : (ltb c a ≡ true) ⊎ (ltb c a ≡ false) → (ltb c (a + n) ≡ true) ⊎ (ltb c (a + n) ≡ false) → get_or whole c 0 ≡ get_or L c 0
      go (inl y) w = let s = part_size in let l : c < a = ltb_lt c a y in grind (arith, common_steps)
      go (inr y) (inl w) = absurd (off (ltb_le c a y, ltb_lt c (a + n) w))
      go (inr y) (inr w) = let s = part_size in let m : a + n ≤ c = ltb_le c (a + n) w in grind (arith, common_steps)

  whole_words : (c d : ℕ) → (in_span a n c ≡ true) ⊎ (in_span a n c ≡ false) → row_live whole d c ≡ cond (in_span a n c && has gone d) false (row_live L d c)
  whole_words c d (inl y) =
      let r = in_span_of a n c y in
      let z : a + (c - a) ≡ c = omega arith in
      let was = part_word a n (c - a) L (omega arith) in
      rw y
      (ap (λ (x : ℕ). has x d) (sym (ap (λ (x : ℕ). get_or whole x 0) z) ∙ within (c - a) (omega arith)) ∙ T.words (c - a) d
      ∙ ap₂ (λ (b : Bool) (x : ℕ). cond (b && has gone d) false (has x d)) (in_span_yes 0 n (c - a) (omega arith)) (was ∙ ap (λ (x : ℕ). get_or L x 0) z))
  whole_words c d (inr y) = rw y (ap (λ (x : ℕ). has x d) (outside c (λ r. clash (in_span_yes a n c r) y)))

  pub out_end : TakenOut a n gone left L whole
  out_end = record {
    size = let s = part_size in simp (length-append, length-take, length-drop) (omega arith);
    words = λ c d. whole_words c d (which (in_span a n c));
    meeting = λ d. T.meeting d ∙ sym (meets_same a 0 n (row_live whole d) (row_live N d) (λ k l. rw zero-add (ap (λ (x : ℕ). has x d) (within k l))));
  }

-- THE SAME WHERE NO ROW IS TAKEN OUT

pub none_yet : (active : ℕ) (L : List ℕ) → StillActiveIs 0 0 active active L
none_yet active L d = sym (ap (λ (b : Bool). cond b false (has active d)) (meets_no 0 0 (row_live L d) (λ k r. absurd (omega arith))))

-- one word more
pub none_next : (n active left next : ℕ) (L : List ℕ) → next ≡ set_minus left (get_or L n 0) → StillActiveIs 0 n active left L → StillActiveIs 0 (n + 1) active next L
none_next n active left next L e T d =
    ap (λ (z : ℕ). has z d) e ∙ minus_has left (get_or L n 0) d ∙ ap (cond (row_live L d n) false) (T d)
    ∙ both_out (meets 0 n (row_live L d)) (row_live L d n) (has active d) ∙ ap (λ (b : Bool). cond b false (has active d)) (sym (rw zero-add at (meets_more 0 n (row_live L d))))
  where
    both_out : (p q r : Bool) → cond q false (cond p false r) ≡ cond (p || q) false r
    both_out true true r = refl
    both_out true false r = refl
    both_out false true r = refl
    both_out false false r = refl

neither : (p : Bool) → cond p false false ≡ false
neither true = refl
neither false = refl

-- where no row is left, none is at the end
pub none_early : (a n all active left : ℕ) (L : List ℕ) → n ≤ all → left ≡ 0 → StillActiveIs a n active left L → StillActiveIs a all active 0 L
none_early a n all active left L h z T d = has_none d ∙ sym (go (meets a n (row_live L d)) refl)
  where
    go : (p : Bool) → meets a n (row_live L d) ≡ p → cond (meets a all (row_live L d)) false (has active d) ≡ false
    go true y =
        let r = meets_gives a n (row_live L d) y in
        let i = r.1 in
        ap (λ (b : Bool). cond b false (has active d)) (meets_yes a all (row_live L d) r.0 (omega arith) r.2)
    go false y =
        let f : has active d ≡ false = sym (T d ∙ ap (λ (b : Bool). cond b false (has active d)) y) ∙ ap (λ (x : ℕ). has x d) z ∙ has_none d in
        ap (cond (meets a all (row_live L d)) false) f ∙ neither (meets a all (row_live L d))

-- and among all words, from a on
pub none_end : (a n active left : ℕ) (L : List ℕ) → StillActiveIs 0 n active left (take n (drop a L)) → StillActiveIs a n active left L
none_end a n active left L T d =
    T d
    ∙ ap (λ (b : Bool). cond b false (has active d))
    (meets_same 0 a n (row_live (take n (drop a L)) d) (row_live L d) (λ k l. rw zero-add (ap (λ (x : ℕ). has x d) (part_word a n k L l))))

-- THE ROWS THAT A GROUP SETTLES

pub settled_any : (k : Bool) (active met : ℕ) → k ≡ true → SettledRows k active met (bit_and active met)
settled_any k active met e d = rw e (has_and active met d)

pub settled_all : (k : Bool) (active met r : ℕ) → k ≡ false → r ≡ set_minus active met → SettledRows k active met r
settled_all k active met r e f d = rw (e, f) (minus_and active met d)

-- ONE GROUP, AT EVERY ROW

-- the settled rows are taken out of its words, and it goes on where none of these is live
module _ (g : Ancestor) (active met settled next : ℕ) (L N : List ℕ) (S : SettledRows g.settling active met settled) (size : length N ≡ length L)
    (words : (c d : ℕ) → has (get_or N c 0) d ≡ cond (in_span g.first g.count c && has settled d) false (has (get_or L c 0) d)) (next_bit : StillActiveIs g.first g.count active next N) where
  -- nothing of the group is live where it is settled
  none_left : (d : ℕ) → has settled d ≡ true → meets g.first g.count (row_live N d) ≡ false
  none_left d s =
      meets_no g.first g.count (row_live N d) (λ c r. words c d ∙ ap₂ (λ (p q : Bool). cond (p && q) false (row_live L d c)) (in_span_yes g.first g.count c r) s)

  steps : {l m : Live} {s t : Bool} → l ≡ m → s ≡ t → ◌≡◌ {A = Step} (record { live = l; settled = s }) (record { live = m; settled = t })
  steps e f = ap₂ (λ (l : Live) (s : Bool). record { live = l; settled = s }) e f

  -- the words of the group at a row that it settles, and at any other
  untouched : (d : ℕ) → has settled d ≡ false → row_live N d ≡ row_live L d
  untouched d e = fun_ext (λ c. words c d ∙ ap (λ (b : Bool). cond (in_span g.first g.count c && b) false (row_live L d c)) e ∙ off (in_span g.first g.count c) (row_live L d c))
    where
      off : (p q : Bool) → cond (p && false) false q ≡ q
      off true q = refl
      off false q = refl

  emptied : (d : ℕ) → has settled d ≡ true → row_live N d ≡ without g.first g.count (row_live L d)
  unfolding without
  emptied d e = fun_ext (λ c. words c d ∙ ap (λ (b : Bool). cond (in_span g.first g.count c && b) false (row_live L d c)) e ∙ on (in_span g.first g.count c) (row_live L d c))
    where
      on : (p q : Bool) → cond (p && true) false q ≡ cond p false q
      on true q = refl
      on false q = refl

  row : (d : ℕ) → (has active d ≡ true) ⊎ (has active d ≡ false) → (settles g.settling (has met d) ≡ true) ⊎ (settles g.settling (has met d) ≡ false)
      → row_step N next d ≡ through g.settling (has met d) g.first g.count (row_step L active d)
  row d (inl p) (inl v) =
      let s : has settled d ≡ true = S d ∙ ap₂ (λ (x y : Bool). x && y) p v in
      steps (emptied d s) (next_bit d ∙ ap₂ (λ (b c : Bool). cond b false c) (none_left d s) p)
      ∙ sym (through_settles g.settling (has met d) g.first g.count (row_step L active d) p (settles_yes g.settling (has met d) v))
  row d (inl p) (inr v) =
      let s : has settled d ≡ false = S d ∙ ap₂ (λ (x y : Bool). x && y) p v in
      steps (untouched d s)
      (next_bit d ∙ ap (cond (meets g.first g.count (row_live N d)) false) p ∙ other (meets g.first g.count (row_live N d))
      ∙ ap not (ap (meets g.first g.count) (untouched d s)))
      ∙ sym (through_asks g.settling (has met d) g.first g.count (row_step L active d) p (settles_no g.settling (has met d) v))
    where
      other : (p : Bool) → cond p false true ≡ not p
      other true = refl
      other false = refl
  row d (inr p) v =
      let s : has settled d ≡ false = S d ∙ ap (λ (b : Bool). b && settles g.settling (has met d)) p in
      steps (untouched d s) (next_bit d ∙ ap (cond (meets g.first g.count (row_live N d)) false) p ∙ neither (meets g.first g.count (row_live N d)) ∙ sym p)
      ∙ sym (through_stopped g.settling (has met d) g.first g.count (row_step L active d) p)

  passed : Passed g met active next L N
  passed = record { size = size; rows = λ d. row d (which (has active d)) (which (settles g.settling (has met d))) }

module _ (g : Ancestor) (active met settled : ℕ) (L : List ℕ) (S : SettledRows g.settling active met settled) where
  pub group_passed : (left next : ℕ) (N : List ℕ) → TakenOut g.first g.count settled left L N → next ≡ set_minus active left → Passed g met active next L N
  group_passed left next N T n =
      passed g active met settled next L N S T.size T.words
      (λ d. ap (λ (z : ℕ). has z d) n ∙ minus_has active left d ∙ ap (λ (b : Bool). cond b false (has active d)) (T.meeting d))

  pub unchanged_passed : (next : ℕ) → settled ≡ 0 → StillActiveIs g.first g.count active next L → Passed g met active next L L
  unchanged_passed next e T =
      passed g active met settled next L L S refl
      (λ c d. sym (ap (λ (b : Bool). cond (in_span g.first g.count c && b) false (row_live L d c)) (ap (λ (z : ℕ). has z d) e ∙ has_none d) ∙ off (in_span g.first g.count c) (row_live L d c))) T
    where
      off : (p q : Bool) → cond (p && false) false q ≡ q
      off true q = refl
      off false q = refl
