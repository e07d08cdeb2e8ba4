-- `finish` meets its contract: refused before anything is written, or every lent table as the end of a run says.
use Rattle.finish.proofs.Finishing.{counter_passed, counter_taken, tally_size_wrong}
use Rattle.std.proofs.Common.{arith}
use Rattle.finish.proofs.finish.Goals as goal

pub returns-then-tally-ne-SIZE : goal.returns-then-tally-ne-SIZE
returns-then-tally-ne-SIZE c = tally_size_wrong _ _ _ _ _ _ _ _ c.if-tally-ne-SIZE.true

pub returns-then-before-looked : goal.returns-then-before-looked
returns-then-before-looked c =
    counter_passed _ _ _ _ _ _ _ _ _ _ c.if-tally-ne-SIZE.false c.eight_bytes-before.ensures c.count_whole_lines-looked.ensures.0 c.if-before-looked.true

pub returns : goal.returns
returns c =
    let found = c.count_whole_lines-found.ensures in
    let looked = c.count_whole_lines-looked.ensures in
    counter_taken _ _ _ _ _ _ _ _ _ _ c.if-tally-ne-SIZE.false c.eight_bytes-before.ensures looked.0 (omega arith) (omega arith) _ _ _ _ found.0
    c.copy_lines.ensures c.copy_lines-2.ensures c.put_eight_bytes.ensures
