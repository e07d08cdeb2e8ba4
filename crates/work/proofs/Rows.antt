-- What working the rows asks and leaves, from what is in hand.
use Prim.Native.Nat.{ℕ}
use mathlib.Core.Path.{◌≡◌, ◌∙◌}
use mathlib.Core.Bool.{true}
use mathlib.Core.List.{List}
use Rattle.strategy.specs.Order.{is_order}
use Rattle.sets.specs.Set.{below_set}
use Rattle.records.specs.Table.{record_at}
use Rattle.reading.specs.declared.tables.Tables.{Tables}
use Rattle.plan.specs.declared.table.Access.{Access}
use Rattle.plan.specs.Plan.{Planned}
use Rattle.rows.specs.declared.all.Extent.{Extent}
use Rattle.rows.specs.Ready.{slices, Ready}
use Rattle.rows.specs.Worked.{ExtentOf, RowsReady, RowsWorked}
use Rattle.rows.proofs.Prepared.{ready}
use Rattle.input.specs.declared.begin.Beginning.{Beginning}
use Rattle.input.specs.Beginning.{HasInput}
use Rattle.demands.specs.Run.{task_of}
use Rattle.work.specs.Worked.{RunWorked}

module _ {b q : List ℕ} {r : Beginning} {T : Tables} (G : HasInput b q r T) (order : List ℕ) (P : List Access) (o : is_order r.n order ≡ true)
    (p : Planned r.tags r.starts (record_at q T.offsets) P r.n) where
  pub input_ready : Ready (slices b q order P T.ancestors) r.n (task_of G.input order)
  input_ready = ready G.laid G.tabled o (rw (G.tags, G.starts) at p)

  module _ (E : Extent) (rows : E.rows ≡ r.rows) (start : E.start ≡ below_set r.n) (mark : E.mark ≡ r.mark) where
    extent_of : ExtentOf (slices b q order P T.ancestors) E r.n (task_of G.input order)
    extent_of = record { rows = rows ∙ G.rows ∙ G.laid.rows; start = start; mark = rw (mark, G.mark) G.laid.mark }

    pub input_rows_ready : RowsReady (slices b q order P T.ancestors) E
    input_rows_ready = (r.n, task_of G.input order, input_ready, extent_of)

    pub input_worked : (S L : List ℕ) → RowsWorked (slices b q order P T.ancestors) E S L → RunWorked b q order r.n S L
    input_worked S L W i d =
        let same : G.input ≡ i = cc in
        rw same at (W r.n (task_of G.input order) input_ready extent_of)
