-- `met_where` meets its contract: where all 64 are in the set, it is the whole block.
use Rattle.std.proofs.Common.{◌≡◌, arith}
use Rattle.sets.specs.Set.{below_set}
use Rattle.sets.proofs.met_where.Goals as goal

pub all_where-requires : goal.all_where-requires
all_where-requires g c = let e : c.args.x ≡ below_set 64 = omega arith in rw e at c.requires

pub returns-then-x-below : goal.returns-then-x-below
returns-then-x-below g c = let e : c.args.x ≡ below_set 64 = omega arith in rw e c.all_where.ensures
