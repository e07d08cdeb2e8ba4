-- `searchroom_count_lines` meets its contract: the table's front has the lines that it counts.
use Rattle.count_calls.proofs.Fronts.{counted_small, front_lines}
use Rattle.std.proofs.Common.{arith}
use Rattle.count_calls.proofs.searchroom_count_lines.Goals as goal

pub count_lines-requires : goal.count_lines-requires
count_lines-requires c = counted_small c.args.table.now c.front-whole.ensures

pub returns : goal.returns
returns c =
    let a = c.args in
    front_lines a.table.now a.lines a.size c.front-whole.ensures (omega arith) (omega arith) c.count_lines.ensures.0
