-- `searchroom_count` meets its contract: what it counts is the table's front.
use Rattle.bitmaps.specs.Bitmap.{ones_in}
use Rattle.count_calls.proofs.Fronts.{counted_small}
use Rattle.std.proofs.Common.{ap, ◌∙◌}
use Rattle.count_calls.proofs.searchroom_count.Goals as goal

pub count_ones-requires : goal.count_ones-requires
count_ones-requires c = counted_small c.args.table.now c.front.ensures

pub returns : goal.returns
returns c = c.count_ones.ensures.0 ∙ ap ones_in c.front.ensures
