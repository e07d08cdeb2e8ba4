-- What the functions that are called ask, from what is in hand.
use Prim.Native.Nat.{ℕ, ◌≤◌, ◌<◌}
use native.Mathlib.Omega.{arith}
use mathlib.Core.Path.{◌≡◌}
use mathlib.Core.List.{List}
use Rattle.catalogue.specs.Format.{row_limit}
use Rattle.records.specs.Table.{record_at}
use Rattle.reading.specs.declared.tables.Tables.{Tables}
use Rattle.plan.specs.declared.table.Access.{Access}
use Rattle.plan.specs.Plan.{access_of, HasColumns}
use Rattle.access.specs.Access.{Accessed}
use Rattle.task.specs.Task.{predicate_at}
use Rattle.rows.proofs.Prepared.{have_columns, planned_accessed}
use Rattle.input.specs.declared.begin.Beginning.{Beginning}
use Rattle.input.specs.Beginning.{HasInput}

module _ {b q : List ℕ} {r : Beginning} {T : Tables} (G : HasInput b q r T) where
  pub input_short : r.rows ≤ row_limit
  input_short = omega (arith, G.rows, G.laid.short)

  pub input_columns : HasColumns r.tags r.starts (record_at q T.offsets) r.n
  input_columns = rw (G.tags, G.starts) (have_columns G.laid G.tabled)

  pub input_accessed : {x : Access} (c : ℕ) → c < r.n → x ≡ access_of r.tags r.starts (record_at q T.offsets c)
      → Accessed b q G.input.catalogue (predicate_at G.input.query c) x
  input_accessed c k e = planned_accessed G.laid G.tabled c k (rw (G.tags, G.starts) at e)
