-- The plan of a call, and the tables of its own once all rows are worked.
use Rattle.std.specs.Prelude.{ℕ, ◌≡◌, List}
use Rattle.fields.specs.Decoded.{accepted}
use Rattle.records.specs.Table.{record_at}
use Rattle.reading.specs.Tables.{tables}
use Rattle.plan.specs.declared.table.Access.{Access}
use Rattle.plan.specs.Plan.{Planned}
use Rattle.rows.specs.Worked.{Worked}
use Rattle.input.specs.declared.begin.Beginning.{Beginning}
use Rattle.input.specs.Beginning.{HasInput, HasInputOffsets}
use Rattle.task.specs.Input.{Input, decode_input}
use Rattle.demands.specs.Run.{task_of}

-- what was read of a request, and the plan of its predicates
pub record HasPlan (b q : List ℕ) (r : Beginning) (plan : List Access) (ancestors : List ℕ) : Type 0 where
  pub offsets : List ℕ
  pub has_input : HasInput b q r (tables offsets ancestors)
  pub planned : Planned r.tags r.starts (record_at q offsets) plan r.n

-- the offsets of a request's fields, of some catalogue
abbrev pub HasOffsets : (q : List ℕ) → Beginning → (offsets : List ℕ) → Type 0
HasOffsets q r offsets = (b : List ℕ) × HasInputOffsets b q r offsets

-- the plan made from them, whatever the catalogue and the ancestors
abbrev pub PlanMade : (q : List ℕ) → Beginning → (offsets : List ℕ) → (plan : List Access) → Type 0
PlanMade q r offsets plan = (b ancestors : List ℕ) → HasInput b q r (tables offsets ancestors) → HasPlan b q r plan ancestors

-- the tables hold what the task gives
abbrev pub RunWorked : (b q order : List ℕ) → (n : ℕ) → (selected marks : List ℕ) → Type 0
RunWorked b q order n S P = (i : Input) → decode_input b q ≡ accepted i → Worked (task_of i order) n S P
