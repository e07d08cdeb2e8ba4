-- `non_ascii_rows` meets its contract: each due row's slot is looked at.
use Rattle.heads.proofs.DueRowLaws.{due_rows}
use Rattle.filters.proofs.non_ascii.non_ascii_rows.Goals as goal

pub kept_where-requires : goal.kept_where-requires
kept_where-requires c = due_rows c.args.rows c.requires

pub returns : goal.returns
returns c = c.kept_where.ensures _ (λ d p m e. e)
