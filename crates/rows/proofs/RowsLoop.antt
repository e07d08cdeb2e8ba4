-- The loop over the blocks of a run: what its tables hold of the rows worked so far, and what one block more adds.
use Prim.Native.Nat.{ℕ, ◌+◌, ◌-◌, ◌*◌, ◌/◌, ◌%◌, ◌≤◌, ◌<◌, min}
use native.Mathlib.Omega.{arith}
use mathlib.Core.Path.{◌≡◌, refl, sym, ap, ap₂, ◌∙◌, subst}
use mathlib.Core.Bool.{Bool, true, false, not, ◌&&◌, and_assoc, and-false}
use mathlib.Core.Logic.{◌⊎◌, inl, inr}
use mathlib.Core.List.{List}
use lib.Dec.{ltb}
use lib.ListN.{length, drop}
use Rattle.fields.specs.Numbers.{Bytes}
use Rattle.bools.specs.Bools.{which, not_true, and_right, ltb_yes, ltb_no, ltb_lt, ltb_le}
use Rattle.strategy.specs.Assignment.{elem}
use Rattle.strategy.proofs.AssignmentLaws.{elem_among}
use Rattle.strategy.specs.Order.{Order}
use Rattle.strategy.proofs.OrderLaws.{order_law}
use Rattle.strategy.specs.Strategy.{predicates}
use Rattle.strategy.proofs.TraceLaws.{trace_among}
use Rattle.strategy.specs.Tree.{eval, size}
use Rattle.strategy.proofs.RowLaws.{work_row}
use Rattle.sets.specs.Set.{has}
use Rattle.sets.specs.SetLaws.{has_below}
use Rattle.bitmaps.specs.Bit.{bit}
use Rattle.bitmaps.proofs.BitLaws.{bit_past}
use Rattle.bitmaps.specs.Table.{line_size, line_bits, line_bit, HoldsBits, within}
use Rattle.bitmaps.proofs.TableLaws.{holds_same, holds_bitmap, holds_bitmaps}
use Rattle.bitmaps.specs.Word.{block_rows, word_size, WordPut}
use Rattle.counts.proofs.Whole.{none_behind}
use Rattle.catalogue.specs.Catalogue.{is_withdrawn}
use Rattle.query.specs.Format.{predicate_limit}
use Rattle.rows.specs.declared.block.Block.{Block}
use Rattle.rows.specs.declared.all.Extent.{Extent}
use Rattle.task.specs.Task.{Task, turns_of, told, is_selected, due_at, is_probed}
use Rattle.present.specs.Present.{WithdrawnFor, present_set}
use Rattle.rows.specs.Ready.{Slices, Ready}
use Rattle.marks.specs.Marks.{HasMarkLines, met_line, HasNoBits, HasEmptyMarks}
use Rattle.rows.specs.Worked.{row_of, BlockIn, HasNoMarks, BlockDone, BlockReady, BlockWorked, is_met, marking, ExtentOf, RowsReady, RowsWorked}
use Rattle.rows.proofs.MarkLines.{probe_line, met_line_lem}
use Rattle.task.proofs.Withdrawn.{probed_is}
use Rattle.present.proofs.PresentLaws.{present_there, present_has}

-- f at the rows before `base`
abbrev pub before : (base : ℕ) → (ℕ → ℕ → Bool) → ℕ → ℕ → Bool
before base f c e = ltb e base && f c e

-- what the table of the selected rows is to hold
abbrev pub selection : Task → ℕ → ℕ → Bool
selection T = within (λ c. is_selected T) 1 T.catalogue.rows

pub record Done (T : Task) (n base lines : ℕ) (S P : List ℕ) : Type 0 where
  pub selected : HoldsBits (before base (selection T)) 1 S
  pub marks : HoldsBits (before base (marking T n)) lines P

-- the rows before `base` are worked; the table of marks at first and by now
pub record Blocking (G : Slices) (E : Extent) (W : List ℕ) (base : ℕ) (S P₀ P : List ℕ) : Type 0 where
  pub withdrawn : WithdrawnFor (drop E.mark G.catalogue) W
  pub whole : base % block_rows ≡ 0
  pub selected_size : length S ≡ line_size
  pub sized : length P ≡ length P₀
  pub table_lines : HasMarkLines P
  pub done : (n : ℕ) (T : Task) → Ready G n T → ExtentOf G E n T → Done T n base table_lines.lines S P

-- TABLES

none_before : (f : ℕ → ℕ → Bool) {lines : ℕ} {t : List ℕ} → HasNoBits lines t → HoldsBits (before 0 f) lines t
none_before f h = holds_same (λ c e l k. sym (ap (λ (b : Bool). b && f c e) (ltb_no e 0 (omega arith)))) h

-- all rows are before the end
all_before_lem : (f : ℕ → ℕ → Bool) (rows base : ℕ) {lines : ℕ} {t : List ℕ} → rows ≤ base → ((c e : ℕ) → rows ≤ e → f c e ≡ false) → HoldsBits (before base f) lines t → HoldsBits f lines t
all_before_lem f rows base m z h = holds_same (λ c e l k. go c e (which (ltb e rows))) h
  where
    go : (c e : ℕ) → (ltb e rows ≡ true) ⊎ (ltb e rows ≡ false) → (ltb e base && f c e) ≡ f c e
    go c e (inl y) = let l : e < rows = ltb_lt e rows y in rw (ltb_yes e base (omega arith))
    go c e (inr y) = rw (z c e (ltb_le e rows y), and-false (ltb e base))

none_past : (f : ℕ → ℕ → Bool) (n rows c e : ℕ) → rows ≤ e → within f n rows c e ≡ false
none_past f n rows c e l = rw (ltb_no e rows l, and-false (ltb c n))

-- a line of marks is one for probes or one for a yes
by_lines : (F : (c e : ℕ) → Type 0) → ((c e : ℕ) → c < predicate_limit → F c e) → ((c e : ℕ) → F (met_line c) e) → (c e : ℕ) → F c e
by_lines F p q c e = go (which (ltb c predicate_limit))
  where
    go : (ltb c predicate_limit ≡ true) ⊎ (ltb c predicate_limit ≡ false) → F c e
    go (inl y) = p c e (ltb_lt c predicate_limit y)
    go (inr y) =
        let m : predicate_limit ≤ c = ltb_le c predicate_limit y in
        let z : met_line (c - predicate_limit) ≡ c = omega arith in
        subst (λ (x : ℕ). F x e) z (q (c - predicate_limit) e)

module _ (T : Task) (n : ℕ) where
  marking_past : (c e : ℕ) → T.catalogue.rows ≤ e → marking T n c e ≡ false
  marking_past = by_lines (λ c e. T.catalogue.rows ≤ e → marking T n c e ≡ false)
      (λ c e k l. probe_line T n c e k ∙ none_past (is_probed T) n T.catalogue.rows c e l)
      (λ c e l. met_line_lem T n c e ∙ none_past (is_met T) n T.catalogue.rows c e l)

-- one block more: its rows by f, and the others as they were
module _ (f : ℕ → ℕ → Bool) (base : ℕ) {lines : ℕ} {t : List ℕ} (t' : List ℕ) (h : HoldsBits (before base f) lines t) (size : length t' ≡ length t) (bytes : Bytes t → Bytes t')
    (here : (c d : ℕ) → c < lines → d < block_rows → base + d < line_bits → line_bit t' c (base + d) ≡ f c (base + d))
    (beside : (c e : ℕ) → c < lines → e < line_bits → (e < base) ⊎ (base + block_rows ≤ e) → line_bit t' c e ≡ line_bit t c e) where
  next_bit : (c e : ℕ) → c < lines → e < line_bits → (ltb e base ≡ true) ⊎ (ltb e base ≡ false) → (ltb e (base + block_rows) ≡ true) ⊎ (ltb e (base + block_rows) ≡ false)
      → line_bit t' c e ≡ before (base + block_rows) f c e
  next_bit c e l k (inl y) z =
      let m : e < base = ltb_lt e base y in
      beside c e l k (inl m) ∙ h.bits c e l k ∙ ap (λ (b : Bool). b && f c e) (y ∙ sym (ltb_yes e (base + block_rows) (omega arith)))
  next_bit c e l k (inr y) (inl z) =
      let m : base ≤ e = ltb_le e base y in
      let n : e < base + block_rows = ltb_lt e (base + block_rows) z in
      let q : base + (e - base) ≡ e = omega arith in
      rw z (subst (λ (x : ℕ). line_bit t' c x ≡ f c x) q (here c (e - base) l (omega arith) (omega arith)))
  next_bit c e l k (inr y) (inr z) =
      let n : base + block_rows ≤ e = ltb_le e (base + block_rows) z in
      beside c e l k (inr n) ∙ h.bits c e l k ∙ ap (λ (b : Bool). b && f c e) (y ∙ sym z)

  pub holds_next : HoldsBits (before (base + block_rows) f) lines t'
  holds_next = record { size = size ∙ h.size; bytes = bytes h.bytes; bits = λ c e l k. next_bit c e l k (which (ltb e base)) (which (ltb e (base + block_rows))) }

-- ONE BLOCK

-- the block at `base` of a run of so many rows, some withdrawn
abbrev pub block_at : Extent → (withdrawn : List ℕ) → (base : ℕ) → Block
block_at E W base = record { base = base; rows = present_set W E.rows base; start = E.start }

module _ {G : Slices} {E : Extent} {W : List ℕ} {base : ℕ} {S P₀ P : List ℕ} (B : Blocking G E W base S P₀ P) (lt : base < E.rows) where
  module _ {n : ℕ} {T : Task} (R : Ready G n T) (X : ExtentOf G E n T) where
    pub block_in : BlockIn (block_at E W base) T.catalogue.rows
    block_in = record { block = record { whole = B.whole; inside = inside }; taking_part = part }
      where
        inside : base < line_bits
        inside = let s = R.short in let r = X.rows in omega arith

        part : (d : ℕ) → has (present_set W E.rows base) d ≡ true → base + d < T.catalogue.rows
        part d y =
            let r = X.rows in
            let l : d < min block_rows (E.rows - base) = ltb_lt d (min block_rows (E.rows - base)) (sym (has_below (min block_rows (E.rows - base)) d) ∙ present_there W E.rows base d y) in
            omega arith

    held : Order (size T.query.tree) (turns_of T)
    held = subst (λ (k : ℕ). Order k (turns_of T)) (sym R.leaves) (subst (Order n) R.turns ((order_law n G.turns).0 R.ordered))

    -- whether row d of the block takes part: it is there and in the house
    takes_part : (d : ℕ) → d < block_rows → has (present_set W E.rows base) d ≡ (ltb (base + d) T.catalogue.rows && not (is_withdrawn T.catalogue (base + d)))
    takes_part d l =
        let r = X.rows in
        let w = B.whole in
        present_has W E.rows base d B.withdrawn.bytes w l lt
        ∙ ap₂ (λ (a b : Bool). a && not b) (ap (ltb (base + d)) r) (B.withdrawn.bits (base + d) ∙ ap (λ (m : List ℕ). bit m (base + d)) X.mark.bytes)

    all_live : (c : ℕ) → c < size T.query.tree → has E.start c ≡ true
    all_live c l = let z = R.leaves in ap (λ (x : ℕ). has x c) X.start ∙ has_below n c ∙ ltb_yes c n (omega arith)

    row_selected : (d : ℕ) → d < block_rows → (row_of T (block_at E W base) d).selected ≡ (ltb (base + d) T.catalogue.rows && is_selected T (base + d))
    unfolding is_selected
    row_selected d l =
        (work_row T.query.tree R.numbered (told T (base + d)) R.full (turns_of T) held (has E.start) all_live (has (present_set W E.rows base) d)).0
        ∙ ap (λ (b : Bool). b && eval T.query.tree (told T (base + d))) (takes_part d l)
        ∙ and_assoc (ltb (base + d) T.catalogue.rows) (not (is_withdrawn T.catalogue (base + d))) (eval T.query.tree (told T (base + d)))

    -- a predicate that is probed is one of the n
    probed_few : (c e : ℕ) → (ltb c n && is_probed T c e) ≡ is_probed T c e
    unfolding due_at
    probed_few c e = go (which (ltb c n))
      where
        due : is_probed T c e ≡ true → elem c (predicates (due_at T e)) ≡ true
        due h = and_right (not (is_withdrawn T.catalogue e)) (elem c (predicates (due_at T e))) (sym (probed_is T e c) ∙ h)

        go : (ltb c n ≡ true) ⊎ (ltb c n ≡ false) → (ltb c n && is_probed T c e) ≡ is_probed T c e
        go (inl y) = rw y
        go (inr y) =
            let z = R.leaves in
            let m : n ≤ c = ltb_le c n y in
            rw y (sym (not_true (is_probed T c e) (λ h. (let k = held.inside c (trace_among (eval T.query.tree) (told T e) (turns_of T) c (elem_among c (predicates (due_at T e)) (due h))) in omega arith))))

    row_probed : (c d : ℕ) → d < block_rows → (row_of T (block_at E W base) d).probed c ≡ within (is_probed T) n T.catalogue.rows c (base + d)
    unfolding due_at
    row_probed c d l =
        (work_row T.query.tree R.numbered (told T (base + d)) R.full (turns_of T) held (has E.start) all_live (has (present_set W E.rows base) d)).1 c
        ∙ ap (λ (b : Bool). b && elem c (predicates (due_at T (base + d)))) (takes_part d l)
        ∙ and_assoc (ltb (base + d) T.catalogue.rows) (not (is_withdrawn T.catalogue (base + d))) (elem c (predicates (due_at T (base + d))))
        ∙ ap (λ (b : Bool). ltb (base + d) T.catalogue.rows && b) (sym (probed_is T (base + d) c) ∙ sym (probed_few c (base + d)))
        ∙ swap (ltb (base + d) T.catalogue.rows) (ltb c n) (is_probed T c (base + d))
      where
        swap : (p q r : Bool) → (p && (q && r)) ≡ (q && (p && r))
        swap true q r = refl
        swap false true r = refl
        swap false false r = refl

    -- the marks of the block's rows
    row_marks : {found : ℕ} {P' : List ℕ} → length P' ≡ length P → BlockDone T (block_at E W base) found P P'
        → (c d : ℕ) → c < B.table_lines.lines → d < block_rows → line_bit P' c (base + d) ≡ marking T n c (base + d)
    row_marks {found} {P'} sized D c d k l =
        by_lines (λ c e. c < B.table_lines.lines → line_bit P' c (base + d) ≡ marking T n c (base + d)) probes meets c d k
      where
        probes : (c e : ℕ) → c < predicate_limit → c < B.table_lines.lines → line_bit P' c (base + d) ≡ marking T n c (base + d)
        probes c e m k = D.probes c d m l ∙ row_probed c d l ∙ sym (probe_line T n c (base + d) m)

        met : (p q r t : Bool) → ((p && (q && r)) && t) ≡ (p && (q && (r && t)))
        met true true r t = refl
        met true false r t = refl
        met false q r t = refl

        meets : (c e : ℕ) → met_line c < B.table_lines.lines → line_bit P' (met_line c) (base + d) ≡ marking T n (met_line c) (base + d)
        meets c e k =
            let s = B.table_lines.size in
            let f = B.table_lines.few in
            D.meets c d (omega arith) (omega arith) l
            ∙ ap (λ (b : Bool). b && told T (base + d) c) (row_probed c d l)
            ∙ met (ltb c n) (ltb (base + d) T.catalogue.rows) (is_probed T c (base + d)) (told T (base + d) c)
            ∙ sym (met_line_lem T n c (base + d))

  pub block_ready : RowsReady G E → BlockReady G (block_at E W base)
  block_ready (n, T, R, X) = (n, T, R, block_in R X)

  pub block_no_marks : RowsReady G E → HasNoMarks (block_at E W base) P
  block_no_marks (n, T, R, X) = record { table_lines = B.table_lines; no_bits = λ c d l. go c d l (which (ltb c B.table_lines.lines)) }
    where
      D : Done T n base B.table_lines.lines S P
      D = B.done n T R X

      go : (c d : ℕ) → d < block_rows → (ltb c B.table_lines.lines ≡ true) ⊎ (ltb c B.table_lines.lines ≡ false) → line_bit P c (base + d) ≡ false
      go c d l (inl y) =
          let w = B.whole in
          let i = (block_in R X).block.inside in
          D.marks.bits c (base + d) (ltb_lt c B.table_lines.lines y) (omega arith)
          ∙ ap (λ (b : Bool). b && marking T n c (base + d)) (ltb_no (base + d) base (omega arith))
      go c d l (inr y) =
          let z : B.table_lines.lines ≤ c = ltb_le c B.table_lines.lines y in
          let s = B.table_lines.size in
          bit_past P (c * line_bits + (base + d)) (omega arith)

  pub block_room : RowsReady G E → base / 8 + word_size ≤ length S
  block_room (n, T, R, X) = let i = (block_in R X).block.inside in let w = B.whole in let s = B.selected_size in omega arith

  pub blocking_next : (found : ℕ) (S' P' : List ℕ) → length P' ≡ length P → BlockWorked G (block_at E W base) found P P' → WordPut S (base / 8) found S' → Blocking G E W (base + block_rows) S' P₀ P'
  blocking_next found S' P' sized K M = record {
    withdrawn = B.withdrawn;
    whole = let w = B.whole in omega arith;
    selected_size = M.size ∙ B.selected_size;
    sized = sized ∙ B.sized;
    table_lines = let t = B.table_lines in record { lines = t.lines; size = sized ∙ t.size; enough = t.enough; few = t.few };
    done = λ n T R X. next n T R X (B.done n T R X) (K n T R (block_in R X));
  }
    where
      next : (n : ℕ) (T : Task) → Ready G n T → ExtentOf G E n T → Done T n base B.table_lines.lines S P → BlockDone T (block_at E W base) found P P'
          → Done T n (base + block_rows) B.table_lines.lines S' P'
      next n T R X D Z = record {
        selected = holds_next (selection T) base S' D.selected M.size M.bytes here other;
        marks = holds_next (marking T n) base P' D.marks Z.same.size Z.same.bytes (λ c d k l m. row_marks R X sized Z c d k l) (λ c e k l w. Z.same.beside c e l w);
      }
        where
          here : (c d : ℕ) → c < 1 → d < block_rows → base + d < line_bits → line_bit S' c (base + d) ≡ selection T c (base + d)
          here c d k l m =
              let w = B.whole in
              let p : base / 8 * 8 + d ≡ c * line_bits + (base + d) = omega arith in
              ap (bit S') (sym p) ∙ M.here d l ∙ Z.selects d l ∙ row_selected R X d l
              ∙ sym (ap (λ (b : Bool). b && (ltb (base + d) T.catalogue.rows && is_selected T (base + d))) (ltb_yes c 1 k))

          other : (c e : ℕ) → c < 1 → e < line_bits → (e < base) ⊎ (base + block_rows ≤ e) → line_bit S' c e ≡ line_bit S c e
          other c e k l (inl x) = let w = B.whole in M.elsewhere (c * line_bits + e) (inl (omega arith))
          other c e k l (inr x) = let w = B.whole in M.elsewhere (c * line_bits + e) (inr (omega arith))

-- ALL BLOCKS

pub blocking_start : {G : Slices} {E : Extent} {W S P : List ℕ} → WithdrawnFor (drop E.mark G.catalogue) W → HasNoBits 1 S → HasEmptyMarks P → Blocking G E W 0 S P P
blocking_start w s p = record {
  withdrawn = w;
  whole = refl;
  selected_size = let z = s.size in omega arith;
  sized = refl;
  table_lines = p.table_lines;
  done = λ n T R X. record { selected = none_before (selection T) s; marks = none_before (marking T n) p.no_bits };
}

pub blocking_end : {G : Slices} {E : Extent} {W : List ℕ} {base : ℕ} {S P₀ P : List ℕ} → E.rows ≤ base → Blocking G E W base S P₀ P → RowsWorked G E S P
blocking_end {G} {E} {W} {base} {S} {P₀} {P} h B n T R X =
    let r = X.rows in
    let short = R.short in
    let few = R.few in
    let t = B.table_lines in
    record {
      selected_size = B.selected_size;
      selected_bitmap = holds_bitmap (is_selected T) T.catalogue.rows S (omega arith) all_selected;
      probed_bitmaps = holds_bitmaps (is_probed T) n T.catalogue.rows P (omega (arith, t.enough)) (omega arith) all_marks
          all_probed;
      marked = λ lines e. let q : t.lines ≡ lines = omega (arith, t.size) in subst (λ (x : ℕ). HoldsBits (marking T n) x P) q all_marks;
      selected_whole = none_behind (λ c. is_selected T) 1 T.catalogue.rows S (omega arith) (omega arith) all_selected
          (λ c e l. ap (λ (b : Bool). b && (ltb e T.catalogue.rows && is_selected T e)) (ltb_yes c 1 l));
      probed_whole = none_behind (is_probed T) n T.catalogue.rows P (omega (arith, t.enough)) (omega arith) all_marks all_probed;
    }
  where
    all_probed : (c e : ℕ) → c < n → marking T n c e ≡ (ltb e T.catalogue.rows && is_probed T c e)
    all_probed c e l =
        let few = R.few in
        probe_line T n c e (omega arith) ∙ ap (λ (b : Bool). b && (ltb e T.catalogue.rows && is_probed T c e)) (ltb_yes c n l)

    all_selected : HoldsBits (selection T) 1 S
    all_selected =
        let r = X.rows in
        all_before_lem (selection T) T.catalogue.rows base (omega arith) (λ c e l. none_past (λ c. is_selected T) 1 T.catalogue.rows c e l) (B.done n T R X).selected

    all_marks : HoldsBits (marking T n) B.table_lines.lines P
    all_marks = let r = X.rows in all_before_lem (marking T n) T.catalogue.rows base (omega arith) (marking_past T n) (B.done n T R X).marks
