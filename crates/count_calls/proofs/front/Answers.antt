-- `front` meets its contract: up to the table's end or the limit, whichever comes first.
use Rattle.count_calls.proofs.Fronts.{front_counted, front_length}
use Rattle.std.proofs.Common.{arith, sym}
use Rattle.count_calls.proofs.front.Goals as goal

pub slice_bounds-result-end : goal.slice_bounds-result-end
slice_bounds-result-end c = sym (front_length c.args.table.now (omega arith))

pub returns : goal.returns
returns c = front_counted c.args.table.now (omega arith)
