-- What working rows gives, block by block, in a run's own tables.
use Rattle.std.specs.Prelude.{ℕ, ◌+◌, ◌-◌, ◌*◌, ◌≤◌, ◌<◌, ◌≡◌, Bool, false, ◌&&◌, cond, ◌⊎◌, List, length, ltb}
use Rattle.fields.specs.Numbers.{Bytes}
use Rattle.strategy.specs.Row.{RowProgress, unworked, work}
use Rattle.sets.specs.Set.{has, below_set}
use Rattle.sets.specs.Changed.{ChangedAt}
use Rattle.bitmaps.specs.Bitmap.{bytes_for, bitmap, bitmaps}
use Rattle.bitmaps.specs.Table.{line_size, line_bits, line_bit, lines_of, HoldsBits, within}
use Rattle.bitmaps.specs.Word.{block_rows, BlockAt}
use Rattle.catalogue.specs.InPlace.{ShowsMark}
use Rattle.query.specs.Format.{predicate_limit}
use Rattle.access.specs.Access.{RowsIn}
use Rattle.rows.specs.declared.block.Block.{Block}
use Rattle.rows.specs.declared.all.Extent.{Extent}
use Rattle.counts.specs.Whole.{NoneBehind}
use Rattle.task.specs.Task.{Task, turns_of, told, is_selected, is_probed}
use Rattle.rows.specs.Ready.{Slices, Ready}
use Rattle.marks.specs.Marks.{HasMarkLines, met_line, HasMetLine}

-- the predicates of `start` are live at the rows, and the other words as they were
abbrev pub Filled : (start rows : ℕ) → (before after : List ℕ) → Type 0
Filled start rows L N = ChangedAt (has start) (λ word. rows) L N

-- row d of a block, as its turns leave it
abbrev pub row_of : Task → Block → (d : ℕ) → RowProgress
row_of T B d = work T.query.tree (told T (B.base + d)) (turns_of T) (unworked (has B.start) (has B.rows d))

-- a block of a line, whose rows that take part are rows of the catalogue
pub record BlockIn (B : Block) (rows : ℕ) : Type 0 where
  pub block : BlockAt B.base
  pub taking_part : RowsIn B.base B.rows rows

-- nothing is marked in the block yet
pub record HasNoMarks (B : Block) (table : List ℕ) : Type 0 where
  pub table_lines : HasMarkLines table
  pub no_bits : (c d : ℕ) → d < block_rows → line_bit table c (B.base + d) ≡ false

-- outside the block a table is as it was
pub record SameBeside (B : Block) (before after : List ℕ) : Type 0 where
  pub size : length after ≡ length before
  pub bytes : Bytes before → Bytes after
  pub beside : (c e : ℕ) → e < line_bits → (e < B.base) ⊎ (B.base + block_rows ≤ e) → line_bit after c e ≡ line_bit before c e

-- each row of the block is selected and has its probes marked as its turns leave it, and the probes with a yes if there are lines for them
pub record BlockDone (T : Task) (B : Block) (selected : ℕ) (before after : List ℕ) : Type 0 where
  pub selects : (d : ℕ) → d < block_rows → has selected d ≡ (row_of T B d).selected
  pub probes : (c d : ℕ) → c < predicate_limit → d < block_rows → line_bit after c (B.base + d) ≡ (row_of T B d).probed c
  pub meets : (c d : ℕ) → c < predicate_limit → HasMetLine after c → d < block_rows
      → line_bit after (met_line c) (B.base + d) ≡ ((row_of T B d).probed c && told T (B.base + d) c)
  pub same : SameBeside B before after

abbrev pub BlockReady : Slices → Block → Type 0
BlockReady G B = (n : ℕ) × (T : Task) × Ready G n T × BlockIn B T.catalogue.rows

abbrev pub BlockWorked : Slices → Block → (selected : ℕ) → (before after : List ℕ) → Type 0
BlockWorked G B selected P P' = (n : ℕ) (T : Task) → Ready G n T → BlockIn B T.catalogue.rows → BlockDone T B selected P P'

-- probed at a row, with outcome yes
abbrev pub is_met : Task → (c row : ℕ) → Bool
is_met T c row = is_probed T c row && told T row c

-- what a table of marks is to hold: in line c the rows at which predicate c is probed, in the line for its yes those with that outcome
abbrev pub marking : Task → (n : ℕ) → (line row : ℕ) → Bool
marking T n line row =
    cond (ltb line predicate_limit) (within (is_probed T) n T.catalogue.rows line row) (within (is_met T) n T.catalogue.rows (line - predicate_limit) row)

-- a run's own tables: the bitmaps of document 01 at the front of their lines, with zeros behind them, and the marks in as many lines as there are
pub record Worked (T : Task) (n : ℕ) (selected marks : List ℕ) : Type 0 where
  pub selected_size : length selected ≡ line_size
  pub selected_bitmap : lines_of (bytes_for T.catalogue.rows) selected 1 ≡ bitmap (is_selected T) T.catalogue.rows
  pub probed_bitmaps : lines_of (bytes_for T.catalogue.rows) marks n ≡ bitmaps (is_probed T) n T.catalogue.rows
  pub marked : (lines : ℕ) → length marks ≡ lines * line_size → HoldsBits (marking T n) lines marks
  pub selected_whole : NoneBehind (bytes_for T.catalogue.rows) 1 selected
  pub probed_whole : NoneBehind (bytes_for T.catalogue.rows) n marks

-- all rows of the task, but for those that the mark withdraws, with all its predicates live at first
pub record ExtentOf (G : Slices) (E : Extent) (n : ℕ) (T : Task) : Type 0 where
  pub rows : E.rows ≡ T.catalogue.rows
  pub start : E.start ≡ below_set n
  pub mark : ShowsMark G.catalogue E.mark T.catalogue

abbrev pub RowsReady : Slices → Extent → Type 0
RowsReady G E = (n : ℕ) × (T : Task) × Ready G n T × ExtentOf G E n T

abbrev pub RowsWorked : Slices → Extent → (selected marks : List ℕ) → Type 0
RowsWorked G E S P = (n : ℕ) (T : Task) → Ready G n T → ExtentOf G E n T → Worked T n S P
