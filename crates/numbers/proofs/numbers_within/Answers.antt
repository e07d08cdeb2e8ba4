-- `numbers_within` meets its contract: where every row is due, `due` is the whole block.
use Rattle.heads.proofs.DueRowLaws.{due_rows}
use Rattle.sets.specs.Set.{below_set}
use Rattle.std.proofs.Common.{arith, ◌≡◌}
use Rattle.numbers.proofs.numbers_within.Goals as goal

pub all_where-requires : goal.all_where-requires
all_where-requires c = let e : c.args.rows.due ≡ below_set 64 = omega arith in let due = rw e at (due_rows c.args.rows c.requires) in λ d m. (due d m, c.args.range.fits)

pub returns-then-rows-below : goal.returns-then-rows-below
returns-then-rows-below c = let e : c.args.rows.due ≡ below_set 64 = omega arith in rw e (c.all_where.ensures _ (λ d p m r. r))
