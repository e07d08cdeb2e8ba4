-- What the checks of a catalogue, a query and an order hand on makes a run ready.
use Prim.Native.Nat.{ℕ, ◌<◌}
use native.Mathlib.Omega.{arith}
use mathlib.Core.Path.{◌≡◌, refl, sym, ap, ◌∙◌}
use mathlib.Core.Bool.{true}
use mathlib.Core.List.{List, []}
use lib.ListN.{length, get_or}
use Rattle.catalogue.specs.Format.{column_limit}
use Rattle.catalogue.specs.Catalogue.{Column, Catalogue, numbers}
use Rattle.catalogue.specs.InPlace.{Shows}
use Rattle.layout.specs.declared.Layout.{Layout}
use Rattle.layout.specs.Layout.{Laid}
use Rattle.layout.proofs.Laid.{column_shown}
use Rattle.predicate.specs.Kinds.{plain_kind}
use Rattle.predicate.specs.Payload.{tags_of, kind_fits}
use Rattle.predicate.proofs.PayloadLaws.{Valid, valid_payload_lem, tags_length, tags_at, shown_tag}
use Rattle.strategy.specs.Order.{is_order}
use Rattle.records.specs.declared.PredicateRecord.{PredicateRecord}
use Rattle.query.specs.Query.{Query}
use Rattle.query.specs.Decode.{payload_of}
use Rattle.records.specs.Table.{record_at, predicate_in}
use Rattle.reading.specs.declared.tables.Tables.{Tables}
use Rattle.reading.specs.QueryRead.{Tabled}
use Rattle.records.proofs.Records.{predicates_at_lem}
use Rattle.plan.specs.declared.table.Access.{Access}
use Rattle.plan.specs.Plan.{access_of, HasColumns, Planned}
use Rattle.access.specs.Access.{Accessed}
use Rattle.task.specs.Task.{predicate_at}
use Rattle.rows.specs.Ready.{slices, Ready}

-- a catalogue that is laid out, and a query that was read against its columns
module _ {b q : List ℕ} {l : Layout} {C : Catalogue} {Q : Query} {n : ℕ} {T : Tables}
    (laid : Laid b l C) (read : Tabled (tags_of C) q Q n T) where
  column_inside : (c : ℕ) → c < n → (record_at q T.offsets c).column < length C.columns
  column_inside c k = omega (arith, (read.each c k).column, tags_length C.columns)

  -- what `fill_plan` asks of the tables
  pub have_columns : HasColumns l.tags l.starts (record_at q T.offsets) n
  have_columns c k =
      let inside : (record_at q T.offsets c).column < column_limit = omega (arith, column_inside c k, laid.columns, laid.few) in
      (omega (arith, laid.tags_size), omega (arith, laid.starts_size))

  module _ (c : ℕ) (k : c < n) where
    abbrev r : PredicateRecord
    r = record_at q T.offsets c

    abbrev tag : ℕ
    tag = get_or l.tags r.column 0

    abbrev column : Column
    column = get_or C.columns r.column (numbers [])

    shown : Shows b C.rows tag (get_or l.starts r.column 0) column
    shown = column_shown r.column laid (omega (arith, column_inside c k, laid.columns))

    valid : Valid (tags_of C) (payload_of (predicate_in q r))
    valid = valid_payload_lem (tags_of C) (payload_of (predicate_in q r)) (read.each c k).valid

    -- the tag in the layout is the one that the query was read against
    same_tag : tag ≡ get_or (tags_of C) r.column 0
    same_tag =
        shown_tag b C.rows tag (get_or l.starts r.column 0) column shown
        ∙ sym (tags_at C.columns r.column (numbers []) (column_inside c k))

    planned : Accessed b q C (predicate_in q r) (access_of l.tags l.starts r)
    planned = record {
      shown = shown;
      kind = refl;
      operand = refl;
      placed = omega (arith, (read.located.each c k).0, (read.located.each c k).1);
      kind_fits_lem = ap (λ (t : ℕ). kind_fits t (plain_kind r.kind)) same_tag ∙ valid.kind_fits_lem;
      operand_fits_lem = valid.operand_fits_lem;
    }

    predicate_is : predicate_at Q c ≡ predicate_in q r
    predicate_is =
        ap (λ ps. get_or ps c (record { column = 0; kind = 0; operand = []; place = 0 })) (sym read.shown)
        ∙ predicates_at_lem q T.offsets n c (record { column = 0; kind = 0; operand = []; place = 0 }) k

  -- a predicate that is planned is shown
  pub planned_accessed : {x : Access} (c : ℕ) → c < n → x ≡ access_of l.tags l.starts (record_at q T.offsets c) → Accessed b q C (predicate_at Q c) x
  planned_accessed c k e = rw (e, predicate_is c k) (planned c k)

  -- A RUN IS READY
  pub ready : {order : List ℕ} {P : List Access} → is_order n order ≡ true → Planned l.tags l.starts (record_at q T.offsets) P n
      → Ready (slices b q order P T.ancestors) n (record { catalogue = C; query = Q; order = order })
  ready {order} {P} o p = record {
    short = omega (arith, laid.rows, laid.short);
    few = read.few;
    turns = refl;
    ordered = o;
    accessed = λ c k. planned_accessed c k (p c k);
    ancestors_size_lem = read.sized.ancestors;
    low = read.low;
    spans = read.spans;
    ancestors = read.ancestors;
    leaves = read.leaves;
    numbered = read.numbered;
    full = read.full;
  }
