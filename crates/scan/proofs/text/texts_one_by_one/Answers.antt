-- `texts_one_by_one` meets its contract: each due row's text is tested.
use Rattle.heads.proofs.DueRowLaws.{due_rows}
use Rattle.scan.proofs.text.texts_one_by_one.Goals as goal

pub kept_where-requires : goal.kept_where-requires
kept_where-requires c = due_rows c.args.rows c.requires

pub returns : goal.returns
returns c = c.kept_where.ensures _ (λ d p m e. e)
