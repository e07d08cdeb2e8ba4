-- `fill_plan` meets its contract: what is planned of the table's records is planned of the predicates'.
use Rattle.std.proofs.Common.{arith}
use Rattle.plan.proofs.Recorded.{have_columns, planned}
use Rattle.plan.proofs.table.fill_plan.Goals as goal

pub plan_records-requires : goal.plan_records-requires
plan_records-requires c = (
  c.requires.0.few,
  omega (arith, c.requires.0.few),
  have_columns c.args.q.now c.args.offsets.now _ _ _ c.tabulate.ensures c.args.columns.tags.now c.args.columns.starts.now c.requires.1,
)

pub returns : goal.returns
returns c = planned c.args.q.now c.args.offsets.now _ _ _ c.tabulate.ensures c.args.columns.tags.now c.args.columns.starts.now _ c.plan_records.ensures
