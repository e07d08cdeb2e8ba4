-- `due_within` meets its contract: each due row's number is tested.
use Rattle.heads.proofs.DueRowLaws.{due_rows}
use Rattle.numbers.proofs.due_within.Goals as goal

pub kept_where-requires : goal.kept_where-requires
kept_where-requires c = λ d m. (due_rows c.args.rows c.requires d m, c.args.range.fits)

pub returns : goal.returns
returns c = c.kept_where.ensures _ (λ d p m r. r)
