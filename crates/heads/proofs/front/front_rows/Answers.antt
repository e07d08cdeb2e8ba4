-- `front_rows` meets its contract: each due row's head is tested.
use Rattle.heads.proofs.DueRowLaws.{due_rows}
use Rattle.heads.proofs.front.front_rows.Goals as goal

pub met_where-requires : goal.met_where-requires
met_where-requires c = due_rows c.args.rows c.requires

pub returns : goal.returns
returns c = c.met_where.ensures _ (λ d p m e. e)
