-- The log of a call's rows: what it is written from, and what is written.
use Rattle.std.specs.Prelude.{ℕ, ◌≤◌, List, length}
use Rattle.fields.specs.Output.{Wrote}
use Rattle.bitmaps.specs.Table.{line_bits}
use Rattle.copy_log.specs.MarkedLog.{marked_log}
use Rattle.plan.specs.declared.table.Access.{Access}
use Rattle.task.specs.Task.{Task}
use Rattle.blanks.specs.Blanks.{ProbesOf, blank_turn}

-- the log that the tables and the blanks of a task stand for
abbrev pub task_log : Task → (turns probed met : List ℕ) → (rows : ℕ) → List ℕ
task_log T turns P M rows = marked_log turns P M (blank_turn T turns P) rows

-- an output has room for it
pub record LogReady (T : Task) (b q : List ℕ) (plan : List Access) (turns probed met : List ℕ) (rows : ℕ) (out : List ℕ) : Type 0 where
  pub probes : ProbesOf T b q plan turns probed met
  pub short : rows ≤ line_bits
  pub room : length (task_log T turns probed met rows) ≤ length out

abbrev pub HasLogRoom : (b : List ℕ) → (plan : List Access) → (turns probed met : List ℕ) → (rows : ℕ) → (out : List ℕ) → Type 0
HasLogRoom b plan turns P M rows out = (T : Task) × (q : List ℕ) × LogReady T b q plan turns P M rows out

-- it is written to the front
abbrev pub LogWritten : (b : List ℕ) → (plan : List Access) → (turns probed met : List ℕ) → (rows : ℕ) → (old : List ℕ) → (r : ℕ) → (new : List ℕ) → Type 0
LogWritten b plan turns P M rows old r new =
    (T : Task) (q : List ℕ) → LogReady T b q plan turns P M rows old → Wrote 0 (task_log T turns P M rows) old r new
