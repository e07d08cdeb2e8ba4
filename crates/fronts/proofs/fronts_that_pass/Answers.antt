-- `fronts_that_pass` meets its contract: each due row's text is tested.
use Rattle.heads.proofs.DueRowLaws.{due_rows}
use Rattle.fronts.proofs.fronts_that_pass.Goals as goal

pub kept_where-requires : goal.kept_where-requires
kept_where-requires c = let p = c.requires in λ d m. (due_rows c.args.rows p.0 d m, p.1, c.sure_of-k.ensures, c.args.rows.bytes)

pub returns : goal.returns
returns c = c.kept_where.ensures _ (λ d p m e. e)
