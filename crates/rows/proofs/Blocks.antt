-- The turns of a block: every row of it by itself, as the theory has it.
use Prim.Native.Nat.{ℕ, ◌+◌, ◌≤◌, ◌<◌}
use native.Mathlib.Omega.{arith}
use native.Mathlib.Numerals.{add-one}
use mathlib.Core.Path.{◌≡◌, refl, sym, ap, ap₂, ◌∙◌, subst, fun_ext}
use mathlib.Core.Bool.{Bool, true, false, ◌&&◌, ◌||◌, cond, or-false, and-false}
use mathlib.Core.Logic.{◌⊎◌, inl, inr}
use mathlib.Core.List.{List, ◌∷◌}
use lib.Dec.{eqb, ltb}
use lib.ListN.{length, get_or, set, drop, drop_of_length-le}
use lib.Seq.{get_or-set_same, get_or-set_other, drop-cons}
use lib.Bits.{bit_and, bit_or}
use Rattle.bools.specs.Bools.{which, same?, eqb_self, eqb_ne, ltb_yes, ltb_lt}
use Rattle.strategy.specs.Assignment.{Among, Once}
use Rattle.strategy.specs.Live.{Live, Step, without}
use Rattle.strategy.proofs.LiveLaws.{without_in, without_off}
use Rattle.strategy.specs.Propagation.{enclosing, propagate}
use Rattle.strategy.specs.Row.{RowProgress, asked, after_turn, turn, work}
use Rattle.strategy.proofs.RowLaws.{turn_idle, work_place}
use Rattle.sets.specs.Set.{has}
use Rattle.sets.specs.SetLaws.{has_and, has_or, has_none}
use Rattle.sets.specs.Kept.{KeptBy}
use Rattle.bitmaps.specs.Table.{line_bits, line_bit}
use Rattle.bitmaps.specs.Word.{block_rows}
use Rattle.query.specs.Format.{predicate_limit}
use Rattle.blocks.specs.Block.{row_live, row_step, Propagated}
use Rattle.rows.specs.declared.block.Block.{Block}
use Rattle.task.specs.Task.{Task, turns_of, told}
use Rattle.marks.specs.Marks.{met_line, HasMetLine, Marked}
use Rattle.rows.specs.Worked.{Filled, row_of, BlockIn, HasNoMarks, SameBeside, BlockDone}

-- row d between two turns, as the code's words and bytes hold it
abbrev pub row_now : (B : Block) (L : List ℕ) (sel : ℕ) (P : List ℕ) (d : ℕ) → RowProgress
row_now B L sel P d = record { live = row_live L d; probed = λ c. ltb c predicate_limit && line_bit P c (B.base + d); selected = has sel d }

-- live only at rows that take part
abbrev pub LiveWithin : (B : Block) (L : List ℕ) → Type 0
LiveWithin B L = (c d : ℕ) → row_live L d c ≡ true → has B.rows d ≡ true

-- after i turns: what is left of them makes of each row what all make of it, no predicate still to come is marked, and a probe's yes is marked
-- if there is a line for it
pub record Working (T : Task) (B : Block) (i : ℕ) (L : List ℕ) (sel : ℕ) (P₀ P : List ℕ) : Type 0 where
  pub rows : (d : ℕ) → d < block_rows → work T.query.tree (told T (B.base + d)) (drop i (turns_of T)) (row_now B L sel P d) ≡ row_of T B d
  pub once : Once (drop i (turns_of T))
  pub unmarked : (c : ℕ) → c < predicate_limit → Among c (drop i (turns_of T)) → (d : ℕ) → d < block_rows → line_bit P c (B.base + d) ≡ false
  pub meets : (c d : ℕ) → c < predicate_limit → HasMetLine P c → d < block_rows → line_bit P (met_line c) (B.base + d) ≡ (line_bit P c (B.base + d) && told T (B.base + d) c)
  pub same : SameBeside B P₀ P

row_same : {l m : Live} {f g : ℕ → Bool} {s t : Bool} → l ≡ m → f ≡ g → s ≡ t
    → ◌≡◌ {A = RowProgress} (record { live = l; probed = f; selected = s }) (record { live = m; probed = g; selected = t })
row_same {l} {m} {f} {g} {s} {t} p q r =
    ap (λ (x : Live). record { live = x; probed = f; selected = s }) p
    ∙ ap₂ (λ (x : ℕ → Bool) (y : Bool). record { live = m; probed = x; selected = y }) q r

same_self : (B : Block) (P : List ℕ) → SameBeside B P P
same_self B P = record { size = refl; bytes = λ h. h; beside = λ c e l w. refl }

module _ (T : Task) (B : Block) where
  pub block_start : (Z L P : List ℕ) → ((c : ℕ) → get_or Z c 0 ≡ 0) → Filled B.start B.rows Z L → Once (turns_of T) → HasNoMarks B P → Working T B 0 L 0 P P
  block_start Z L P z F o U = record {
    rows = λ d l. ap (work T.query.tree (told T (B.base + d)) (turns_of T))
        (row_same (fun_ext (λ c. live c d)) (fun_ext (λ c. ap (λ (b : Bool). ltb c predicate_limit && b) (U.no_bits c d l) ∙ and-false (ltb c predicate_limit))) (has_none d));
    once = o;
    unmarked = λ c k m d l. U.no_bits c d l;
    meets = λ c d k h l. U.no_bits (met_line c) d l ∙ sym (ap (λ (b : Bool). b && told T (B.base + d) c) (U.no_bits c d l));
    same = same_self B P;
  }
    where
      pick : (b : Bool) (d : ℕ) → has (cond b B.rows 0) d ≡ (b && has B.rows d)
      pick true d = refl
      pick false d = has_none d

      live : (c d : ℕ) → row_live L d c ≡ (has B.start c && has B.rows d)
      live c d = ap (λ (x : ℕ). has x d) (F.each c ∙ ap (cond (has B.start c) B.rows) (z c)) ∙ pick (has B.start c) d

  pub block_end : {i sel : ℕ} {L P₀ P : List ℕ} → length (turns_of T) ≤ i → Working T B i L sel P₀ P → BlockDone T B sel P₀ P
  unfolding work
  block_end {i} {sel} {L} {P₀} {P} h W = record {
    selects = λ d l. ap (λ (r : RowProgress). r.selected) (done d l);
    probes = λ c d k l. probed c d k l;
    meets = λ c d k h l. W.meets c d k h l ∙ ap (λ (b : Bool). b && told T (B.base + d) c) (probed c d k l);
    same = W.same;
  }
    where
      done : (d : ℕ) → d < block_rows → row_now B L sel P d ≡ row_of T B d
      done d l =
          ap (λ (cs : List ℕ). work T.query.tree (told T (B.base + d)) cs (row_now B L sel P d)) (sym (drop_of_length-le (turns_of T) h)) ∙ W.rows d l

      probed : (c d : ℕ) → c < predicate_limit → d < block_rows → line_bit P c (B.base + d) ≡ (row_of T B d).probed c
      probed c d k l =
          sym (ap (λ (b : Bool). b && line_bit P c (B.base + d)) (ltb_yes c predicate_limit k)) ∙ ap (λ (r : RowProgress). r.probed c) (done d l)

  -- turn i
  module _ {i sel : ℕ} {L P₀ P : List ℕ} (W : Working T B i L sel P₀ P) (lt : i < length (turns_of T)) where
    abbrev c : ℕ
    c = get_or (turns_of T) i 0

    at : drop i (turns_of T) ≡ get_or (turns_of T) i 0 ∷ drop (i + 1) (turns_of T)
    at = drop-cons (turns_of T) i 0 lt ∙ ap (λ (k : ℕ). get_or (turns_of T) i 0 ∷ drop k (turns_of T)) (sym (add-one i))

    once_at : Once (get_or (turns_of T) i 0 ∷ drop (i + 1) (turns_of T))
    once_at = subst Once at W.once

    among_later : (k : ℕ) → Among k (drop (i + 1) (turns_of T)) → Among k (drop i (turns_of T))
    among_later k m = subst (Among k) (sym at) (inr m)

    -- the rows after the turn, if each is what the turn makes of it
    taken : (sel' : ℕ) (N P' : List ℕ)
        → ((d : ℕ) → d < block_rows → turn T.query.tree (told T (B.base + d)) (get_or (turns_of T) i 0) (row_now B L sel P d) ≡ row_now B N sel' P' d)
        → (d : ℕ) → d < block_rows → work T.query.tree (told T (B.base + d)) (drop (i + 1) (turns_of T)) (row_now B N sel' P' d) ≡ row_of T B d
    taken sel' N P' t d l =
        ap (work T.query.tree (told T (B.base + d)) (drop (i + 1) (turns_of T))) (sym (t d l))
        ∙ sym (work_place T.query.tree (told T (B.base + d)) (turns_of T) i (row_now B L sel P d) lt) ∙ W.rows d l

    -- due nowhere
    pub block_idle : get_or L (get_or (turns_of T) i 0) 0 ≡ 0 → Working T B (i + 1) L sel P₀ P
    block_idle e = record {
      rows = taken sel L P (λ d l. turn_idle T.query.tree (told T (B.base + d)) (get_or (turns_of T) i 0) (row_now B L sel P d) (ap (λ (x : ℕ). has x d) e ∙ has_none d));
      once = once_at.1;
      unmarked = λ k x m. W.unmarked k x (among_later k m);
      meets = W.meets;
      same = W.same;
    }

    -- probed at the due rows: x are its word's rows, `met` those of a yes, `passed` those at which the propagation passed the outermost group
    module _ {met passed : ℕ} {N P' : List ℕ} (I : BlockIn B T.catalogue.rows) (hl : get_or (turns_of T) i 0 < length L) (below : get_or (turns_of T) i 0 < predicate_limit)
        (K : KeptBy (λ d. told T (B.base + d) (get_or (turns_of T) i 0)) (get_or L (get_or (turns_of T) i 0) 0) met)
        (M : Marked (get_or (turns_of T) i 0) B.base (get_or L (get_or (turns_of T) i 0) 0) met P P')
        (G : Propagated (enclosing T.query.tree 0 (get_or (turns_of T) i 0)) met (get_or L (get_or (turns_of T) i 0) 0) passed (set L (get_or (turns_of T) i 0) 0) N) where
      emptied : (d : ℕ) → row_live (set L c 0) d ≡ without c 1 (row_live L d)
      emptied d = fun_ext (λ k. go k (same? k c))
        where
          go : (k : ℕ) → (k ≡ c) ⊎ (k ≡ c → ⊥) → has (get_or (set L c 0) k 0) d ≡ without c 1 (row_live L d) k
          go k (inl e) =
              ap (λ (x : ℕ). has (get_or (set L c 0) x 0) d) e ∙ ap (λ (x : ℕ). has x d) (get_or-set_same L c 0 0 hl) ∙ has_none d
              ∙ sym (without_in c 1 k (row_live L d) (omega arith))
          go k (inr e) = ap (λ (x : ℕ). has x d) (get_or-set_other L c k 0 0 e) ∙ sym (without_off c 1 k (row_live L d) (λ r. e (omega arith)))

      unmarked_here : (d : ℕ) → d < block_rows → line_bit P c (B.base + d) ≡ false
      unmarked_here = W.unmarked c below (subst (Among c) (sym at) (inl refl))

      in_line : (d : ℕ) → d < block_rows → B.base + d < line_bits
      in_line d l = let m = I.block.whole in let n = I.block.inside in omega arith

      -- the lines of other predicates
      other : (k d : ℕ) → d < block_rows → k < predicate_limit → (k ≡ c → ⊥) → line_bit P' k (B.base + d) ≡ line_bit P k (B.base + d)
      other k d l h ne = M.beside k (B.base + d) (in_line d l) (λ q. absurd (apart q))
        where
          apart : (k ≡ c) ⊎ (k ≡ met_line c) → ⊥
          apart (inl q) = ne q
          apart (inr q) = omega arith

      other_met : (k d : ℕ) → d < block_rows → (k ≡ c → ⊥) → line_bit P' (met_line k) (B.base + d) ≡ line_bit P (met_line k) (B.base + d)
      other_met k d l ne = M.beside (met_line k) (B.base + d) (in_line d l) (λ q. absurd (apart q))
        where
          apart : (met_line k ≡ c) ⊎ (met_line k ≡ met_line c) → ⊥
          apart (inl q) = omega arith
          apart (inr q) = ne (omega arith)

      marked : (k d : ℕ) → d < block_rows → (ltb k predicate_limit ≡ true) ⊎ (ltb k predicate_limit ≡ false) → (k ≡ c) ⊎ (k ≡ c → ⊥)
          → ((ltb k predicate_limit && line_bit P k (B.base + d)) || (eqb k c && row_live L d c)) ≡ (ltb k predicate_limit && line_bit P' k (B.base + d))
      marked k d l b (inl e) = rw (e, eqb_self c, unmarked_here d l, ltb_yes c predicate_limit below) (sym (M.probes d l))
      marked k d l (inl y) (inr ne) = rw (y, eqb_ne k c ne, or-false (line_bit P k (B.base + d))) (sym (other k d l (ltb_lt k predicate_limit y) ne))
      marked k d l (inr y) (inr ne) = rw (y, eqb_ne k c ne)

      met_marked : (k d : ℕ) → k < predicate_limit → HasMetLine P' k → d < block_rows → (k ≡ c) ⊎ (k ≡ c → ⊥)
          → line_bit P' (met_line k) (B.base + d) ≡ (line_bit P' k (B.base + d) && told T (B.base + d) k)
      met_marked k d x h l (inl e) =
          rw e (M.meets (let z = M.size in let y : k ≡ c = e in omega arith) d l ∙ K d ∙ sym (ap (λ (b : Bool). b && told T (B.base + d) c) (M.probes d l)))
      met_marked k d x h l (inr ne) =
          other_met k d l ne ∙ W.meets k d x (let z = M.size in omega arith) l ∙ sym (ap (λ (b : Bool). b && told T (B.base + d) k) (other k d l x ne))

      -- the propagation of row d
      propagated : (d : ℕ) → propagate (row_live L d c && told T (B.base + d) c) (enclosing T.query.tree 0 c) (asked c (row_live L d)) ≡ row_step N passed d
      propagated d =
          ap₂ (λ (v : Bool) (l : Live). propagate v (enclosing T.query.tree 0 c) (record { live = l; settled = row_live L d c })) (sym (K d)) (sym (emptied d))
          ∙ sym (G.rows d)

      turned : (d : ℕ) → d < block_rows → turn T.query.tree (told T (B.base + d)) c (row_now B L sel P d) ≡ row_now B N (bit_or sel (bit_and passed met)) P' d
      turned d l =
          ap₂ (λ (v : Bool) (s : Step). after_turn c v s (row_now B L sel P d)) (sym (K d)) (propagated d)
          ∙ row_same refl (fun_ext (λ k. marked k d l (which (ltb k predicate_limit)) (same? k c)))
          (sym (has_or sel (bit_and passed met) d ∙ ap (λ (b : Bool). has sel d || b) (has_and passed met d)))

      pub block_turn : Working T B (i + 1) N (bit_or sel (bit_and passed met)) P₀ P'
      block_turn = record {
        rows = taken (bit_or sel (bit_and passed met)) N P' turned;
        once = once_at.1;
        unmarked = λ k x m d l.
            other k d l x (λ q. once_at.0 (subst (λ (y : ℕ). Among y (drop (i + 1) (turns_of T))) q m)) ∙ W.unmarked k x (among_later k m) d l;
        meets = λ k d x h l. met_marked k d x h l (same? k c);
        same = record {
          size = M.size ∙ W.same.size;
          bytes = λ h. M.bytes (W.same.bytes h);
          beside = λ k e l w. M.beside k e l (λ q. w) ∙ W.same.beside k e l w;
        };
      }
