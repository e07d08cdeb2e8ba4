-- `put_conditions` meets its contract. Invariant: the lines of the conditions passed are written.
use Rattle.bitmaps.proofs.Lines.{line_fits}
use Rattle.register.specs.RegisterLaws.{condition_row, conditions_more, conditions_none, row_short}
use Rattle.std.proofs.Common.{arith}
use Rattle.std.specs.Prelude.{refl, ◌*◌, ◌≡◌}
use Rattle.register.proofs.text.put_conditions.Goals as goal

pub loop-c-init : goal.loop-c-init
loop-c-init c = (conditions_none c.args.looks.now c.args.size, omega arith)

pub overflow_mul-from : goal.overflow_mul-from
overflow_mul-from c = omega (arith, line_fits c.args.size c.args.n c.loop-c.c (omega arith))

pub slice_bounds-count_ones-end : goal.slice_bounds-count_ones-end
slice_bounds-count_ones-end c = omega (arith, line_fits c.args.size c.args.n c.loop-c.c (omega arith))

pub count_ones-count-requires : goal.count_ones-count-requires
count_ones-count-requires c = row_short c.args.size (c.loop-c.c * c.args.size) c.args.looks.now (omega arith)

pub loop-c-preserved : goal.loop-c-preserved
loop-c-preserved c =
    let a = c.args in
    let l = c.loop-c in
    let wrote = condition_row a.size l.c a.looks.now refl c.count_ones-count.ensures.0 c.put_condition-end.ensures.0 in
    (conditions_more a.size l.c a.looks.now (omega arith) l.invariant.0 wrote, omega arith)

pub returns : goal.returns
returns c = let e : c.loop-c.c ≡ c.args.n = omega arith in rw e at c.loop-c.invariant
