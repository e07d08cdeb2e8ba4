-- `work` meets its contract: what was read and planned makes the run ready, and its tables are those of its task.
use Rattle.std.proofs.Common.{refl}
use Rattle.work.proofs.Rows.{input_rows_ready, input_worked}
use Rattle.work.proofs.work.Goals as goal

pub work_rows-requires : goal.work_rows-requires
work_rows-requires c =
    let h = c.requires in
    let H = h.has_plan.0 in
    record { rows_ready = input_rows_ready H.has_input _ _ h.has_plan.1 H.planned _ refl c.below.ensures refl; has_no_bits = h.has_no_bits }

pub returns : goal.returns
returns c =
    let h = c.requires in
    let H = h.has_plan.0 in
    input_worked H.has_input _ _ h.has_plan.1 H.planned _ refl c.below.ensures refl _ _ c.work_rows.ensures
