-- The first c predicates are planned.
use Rattle.std.proofs.Common.{◌≡◌, length}
use Rattle.query.specs.Format.{predicate_limit}
use Rattle.records.specs.Table.{record_in}
use Rattle.plan.specs.Plan.{Planned}
use Rattle.plan.proofs.table.plan_records.Given as goal

abbrev pub invariant-loop-c : goal.invariant-loop-c
invariant-loop-c l = record { sized : length l.plan ≡ predicate_limit; planned : Planned l.columns.tags.now l.columns.starts.now (record_in l.table) l.plan l.c }
