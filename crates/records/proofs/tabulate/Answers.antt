-- `tabulate` meets its contract: each turn stores one record more.
use Rattle.std.proofs.Common.{◌<◌, length, sym, arith}
use Rattle.records.proofs.Tabulated.{filled_next, filled_none}
use Rattle.records.proofs.tabulate.Goals as goal

pub loop-c-init : goal.loop-c-init
loop-c-init c = sym (filled_none c.args.predicates.q.now c.args.predicates.offsets.now c.args.table.now)

pub loop-c-preserved : goal.loop-c-preserved
loop-c-preserved c =
    let room : c.loop-c.c < length c.args.table.now = omega arith in
    let next = filled_next c.args.predicates.q.now c.args.predicates.offsets.now c.args.table.now c.loop-c.c c.record_at.result room c.record_at.ensures in
    rw c.loop-c.invariant next
