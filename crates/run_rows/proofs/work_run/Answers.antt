-- `work_run` meets its contract: the plan is that of what was read, and the rows are worked by it.
use Rattle.std.proofs.Common.{refl, sym}
use Rattle.run_rows.proofs.work_run.Goals as goal

pub slice_bounds-make_plan-end : goal.slice_bounds-make_plan-end
slice_bounds-make_plan-end c = sym c.requires.has_input.0.tabled.sized.offsets

pub make_plan-requires : goal.make_plan-requires
make_plan-requires c = (_, (_, c.requires.has_input.0))

pub work-requires : goal.work-requires
work-requires c =
    let p = c.requires in
    record { has_plan = (c.make_plan.ensures _ _ p.has_input.0, p.has_input.1); has_no_bits = p.has_no_bits }

pub returns : goal.returns
returns c = c.work.ensures
