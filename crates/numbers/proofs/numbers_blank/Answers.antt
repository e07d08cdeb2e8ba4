-- `numbers_blank` meets its contract: where every row is due, `due` is the whole block; else the blank is a range of its one number.
use Rattle.heads.proofs.DueRowLaws.{due_rows}
use Rattle.numbers.proofs.Within.{is_blank_lem}
use Rattle.numbers.specs.Within.{number_in_row}
use Rattle.predicate.specs.Meaning.{number_blank}
use Rattle.sets.specs.KeptLaws.{kept_same}
use Rattle.sets.specs.Set.{below_set}
use Rattle.std.proofs.Common.{arith, ◌+◌, ◌≡◌}
use Rattle.numbers.proofs.numbers_blank.Goals as goal

pub all_where-requires : goal.all_where-requires
all_where-requires c = let e : c.args.rows.due ≡ below_set 64 = omega arith in rw e at (due_rows c.args.rows c.requires)

pub returns-then-rows-full : goal.returns-then-rows-full
returns-then-rows-full c = let e : c.args.rows.due ≡ below_set 64 = omega arith in rw e (c.all_where.ensures _ (λ d p m r. r))

pub returns : goal.returns
returns c =
    let a = c.args.rows in
    kept_same _ (λ d. number_blank (number_in_row a.b.now a.start (a.base + d))) a.due c.due_within.result (λ d m. is_blank_lem (number_in_row a.b.now a.start (a.base + d))) c.due_within.ensures
