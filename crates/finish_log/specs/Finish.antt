-- How a copy ends, from the table and the plan of its own.
use Rattle.std.specs.Prelude.{ℕ, ◌*◌, ◌≤◌, ◌<◌, ◌≡◌, true, List, length}
use Rattle.strategy.specs.Order.{is_order}
use Rattle.bitmaps.specs.Table.{line_size}
use Rattle.catalogue.specs.Format.{row_limit}
use Rattle.query.specs.Format.{predicate_limit}
use Rattle.plan.specs.declared.table.Access.{Access}
use Rattle.plan.specs.Plan.{access_at}
use Rattle.access.specs.Access.{Accessed}
use Rattle.task.specs.Task.{predicate_at, made_at}
use Rattle.rows.specs.Worked.{Worked}
use Rattle.task.specs.Input.{Input}
use Rattle.answers.specs.Answer.{Answer}
use Rattle.answers.specs.Word.{packed}
use Rattle.answers.specs.Checks.{checked}
use Rattle.demands.specs.Run.{row_count, predicate_count, task_of}
use Rattle.answers.specs.Written.{Written, written, refuse_writing}
use Rattle.demands.specs.Log.{accept_log, output_checks}

-- the marks of an input's rows, worked in this order: lines for the probes and for those with a yes; and a plan that shows its predicates
pub record MarksOf (i : Input) (b q : List ℕ) (plan : List Access) (order marks : List ℕ) (n rows : ℕ) : Type 0 where
  pub count : predicate_count i ≡ n
  pub few : n ≤ predicate_limit
  pub rows_are : row_count i ≡ rows
  pub short : rows ≤ row_limit
  pub ordered : is_order n order ≡ true
  pub size : length marks ≡ 2 * predicate_limit * line_size
  pub selected : List ℕ
  pub worked : Worked (task_of i order) n selected marks
  pub accessed : (c : ℕ) → c < n → Accessed b q i.catalogue (predicate_at i.query c) (access_at plan c)

abbrev pub HasMarks : (b : List ℕ) → (plan : List Access) → (order marks : List ℕ) → (n rows : ℕ) → Type 0
HasMarks b plan order marks n rows = (i : Input) × (q : List ℕ) × MarksOf i b q plan order marks n rows

-- refusal 20, or the fields, each row's in turn
unfoldable pub finished_log : Input → (order output : List ℕ) → Written
finished_log i order output =
    checked (output_checks (task_of i order) output) (λ e. refuse_writing e output) (accept_log (made_at (task_of i order)) (task_of i order) output)

abbrev pub LogFinished : (b : List ℕ) → (plan : List Access) → (order marks : List ℕ) → (n rows : ℕ) → (old : List ℕ) → Answer → (new : List ℕ) → Type 0
LogFinished b plan order marks n rows old a new = (i : Input) (q : List ℕ) → MarksOf i b q plan order marks n rows → written (packed a) new ≡ finished_log i order old
