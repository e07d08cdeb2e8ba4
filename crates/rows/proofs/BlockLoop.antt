-- The loop over the turns of a block, as the code has it: its state, what each call asks, and what each turn leaves.
use Prim.Native.Nat.{ℕ, ◌+◌, ◌≤◌, ◌<◌}
use native.Mathlib.Omega.{arith}
use mathlib.Core.Path.{◌≡◌, refl, sym, ap, ◌∙◌, subst}
use mathlib.Core.Bool.{Bool, true, false, cond}
use mathlib.Core.Logic.{◌⊎◌, inl, inr}
use mathlib.Core.List.{List}
use lib.ListN.{length, length-set, get_or, set}
use lib.Seq.{get_or-set_same, get_or-set_other}
use lib.Bits.{bit_and, bit_or}
use Rattle.bools.specs.Bools.{clash, same?}
use Rattle.strategy.specs.Assignment.{Once}
use Rattle.strategy.proofs.AssignmentLaws.{among_at}
use Rattle.strategy.proofs.OrderLaws.{order_law}
use Rattle.strategy.specs.Live.{Step}
use Rattle.strategy.specs.Propagation.{Ancestor, enclosing}
use Rattle.strategy.proofs.PropagationLaws.{propagate_less}
use Rattle.sets.specs.Set.{has}
use Rattle.sets.specs.SetLaws.{has_none}
use Rattle.sets.specs.Kept.{KeptBy}
use Rattle.query.specs.Format.{predicate_limit}
use Rattle.ancestors.specs.Ancestors.{ancestors_of}
use Rattle.blocks.specs.Block.{row_live, row_step, Propagated, HasAncestors}
use Rattle.plan.specs.Plan.{access_at}
use Rattle.access.specs.Access.{HasOutcomes, MetIs}
use Rattle.rows.specs.declared.block.Block.{Block}
use Rattle.task.specs.Task.{Task, predicate_at, turns_of, told}
use Rattle.rows.specs.Ready.{Slices, Ready}
use Rattle.marks.specs.Marks.{MarkReady, Marked}
use Rattle.rows.specs.Worked.{Filled, BlockIn, HasNoMarks, BlockReady, BlockWorked}
use Rattle.rows.proofs.Blocks.{LiveWithin, Working, block_start, block_idle, block_turn, block_end}

-- after i turns: the words of the live predicates, the rows selected so far, and the table of probes at first and by now
pub record Turning (G : Slices) (B : Block) (i : ℕ) (L : List ℕ) (sel : ℕ) (P₀ P : List ℕ) : Type 0 where
  pub place : i ≤ length G.turns
  pub words : length L ≡ predicate_limit
  pub sized : length P ≡ length P₀
  pub within : LiveWithin B L
  pub working : (n : ℕ) (T : Task) → Ready G n T → BlockIn B T.catalogue.rows → Working T B i L sel P₀ P

ready_once : {G : Slices} {n : ℕ} {T : Task} → Ready G n T → Once (turns_of T)
ready_once {G} {n} {T} R = subst Once R.turns ((order_law n G.turns).0 R.ordered).once

-- a turn is a predicate's
ready_turn : {G : Slices} {n : ℕ} {T : Task} (i : ℕ) → Ready G n T → i < length G.turns → get_or G.turns i 0 < n
ready_turn {G} {n} i R h = ((order_law n G.turns).0 R.ordered).inside (get_or G.turns i 0) (among_at G.turns i h)

pub in_words : {c words : ℕ} → c < predicate_limit → words ≡ predicate_limit → c < words
in_words few e = omega arith

module _ {G : Slices} {B : Block} where
  pub turning_start : (Z L P : List ℕ) → ((c : ℕ) → get_or Z c 0 ≡ 0) → length L ≡ predicate_limit → Filled B.start B.rows Z L → HasNoMarks B P → Turning G B 0 L 0 P P
  turning_start Z L P z s F U = record {
    place = omega arith;
    words = s;
    sized = refl;
    within = λ c d y. pick (has B.start c) d (sym (ap (λ (x : ℕ). has x d) (F.each c ∙ ap (cond (has B.start c) B.rows) (z c))) ∙ y);
    working = λ n T R I. block_start T B Z L P z F (ready_once R) U;
  }
    where
      pick : (b : Bool) (d : ℕ) → has (cond b B.rows 0) d ≡ true → has B.rows d ≡ true
      pick true d y = y
      pick false d y = clash y (has_none d)

  module _ {i sel : ℕ} {L P₀ P : List ℕ} (W : Turning G B i L sel P₀ P) where
    pub turning_end : length G.turns ≤ i → BlockWorked G B sel P₀ P
    turning_end h n T R I = block_end T B (subst (λ (l : List ℕ). length l ≤ i) R.turns h) (W.working n T R I)

    -- turn i is predicate c's
    module _ (c : ℕ) (c-is : c ≡ get_or G.turns i 0) (lt : i < length G.turns) where
      pub turn_few : BlockReady G B → c < predicate_limit
      turn_few (n, T, R, I) = let f = R.few in let l = ready_turn i R lt in omega arith

      pub turn_outcomes : BlockReady G B → HasOutcomes G.catalogue G.question (access_at G.plan c) B.base (get_or L c 0)
      turn_outcomes (n, T, R, I) =
          (T.catalogue, predicate_at T.query c, R.accessed c (rw c-is (ready_turn i R lt)), λ d y. I.taking_part d (W.within c d y))

      pub turn_mark : BlockReady G B → HasNoMarks B P₀ → MarkReady c B.base P
      turn_mark K U = let t = U.table_lines in record {
        below = turn_few K;
        block = K.3.block;
        table_lines = record { lines = t.lines; size = W.sized ∙ t.size; enough = t.enough; few = t.few };
      }

      pub turn_ancestors : BlockReady G B → (words : ℕ) → words ≡ predicate_limit → HasAncestors G.ancestors c words
      turn_ancestors (n, T, R, I) words e =
          let few = R.few in
          let size = R.ancestors_size_lem in
          let l : c < n = rw c-is (ready_turn i R lt) in
          record {
            few = omega arith;
            line = omega arith;
            each = λ k h.
                (let s = R.spans c k l h in
                let low = R.low c l in
                record { inside = omega arith; ordered = s.0; held = omega arith });
          }

      -- due nowhere in the block
      pub turning_idle : get_or L c 0 ≡ 0 → Turning G B (i + 1) L sel P₀ P
      turning_idle e = record {
        place = omega arith;
        words = W.words;
        sized = W.sized;
        within = W.within;
        working = λ n T R I. block_idle T B (W.working n T R I) (subst (λ (l : List ℕ). i < length l) R.turns lt)
            (ap (λ (x : ℕ). get_or L x 0) (sym (c-is ∙ ap (λ (l : List ℕ). get_or l i 0) R.turns)) ∙ e);
      }

      module _ (met passed : ℕ) (N P' : List ℕ) (hl : c < length L)
          (K : MetIs G.catalogue G.question (access_at G.plan c) B.base (get_or L c 0) met)
          (M : Marked c B.base (get_or L c 0) met P P')
          (C : Propagated (ancestors_of G.ancestors c) met (get_or L c 0) passed (set L c 0) N) where
        still_within : LiveWithin B N
        still_within k d y = go (same? k c)
          where
            was : row_live (set L c 0) d k ≡ true
            was = propagate_less (has met d) (ancestors_of G.ancestors c) (row_step (set L c 0) (get_or L c 0) d) k (ap (λ (s : Step). s.live k) (sym (C.rows d)) ∙ y)

            go : (k ≡ c) ⊎ (k ≡ c → ⊥) → has B.rows d ≡ true
            go (inl e) = clash was (ap (λ (x : ℕ). has (get_or (set L c 0) x 0) d) e ∙ ap (λ (x : ℕ). has x d) (get_or-set_same L c 0 0 hl) ∙ has_none d)
            go (inr e) = W.within k d (sym (ap (λ (x : ℕ). has x d) (get_or-set_other L c k 0 0 e)) ∙ was)

        pub turning_next : Turning G B (i + 1) N (bit_or sel (bit_and passed met)) P₀ P'
        turning_next = record {
          place = omega arith;
          words = C.size ∙ length-set L c 0 ∙ W.words;
          sized = M.size ∙ W.sized;
          within = still_within;
          working = λ n T R I.
              (let e : c ≡ get_or (turns_of T) i 0 = c-is ∙ ap (λ (l : List ℕ). get_or l i 0) R.turns in
              let l : c < n = rw c-is (ready_turn i R lt) in
              block_turn T B (W.working n T R I) (subst (λ (t : List ℕ). i < length t) R.turns lt) I
              (subst (λ (x : ℕ). x < length L) e hl)
              (let few = R.few in subst (λ (x : ℕ). x < predicate_limit) e (omega arith))
              (subst (λ (x : ℕ). KeptBy (λ d. told T (B.base + d) x) (get_or L x 0) met) e (K T.catalogue (predicate_at T.query c) (R.accessed c l) (λ d y. I.taking_part d (W.within c d y))))
              (subst (λ (x : ℕ). Marked x B.base (get_or L x 0) met P P') e M)
              (subst (λ (x : ℕ). Propagated (enclosing T.query.tree 0 x) met (get_or L x 0) passed (set L x 0) N) e
              (subst (λ (gs : List Ancestor). Propagated gs met (get_or L c 0) passed (set L c 0) N) (R.ancestors c l) C)));
        }
