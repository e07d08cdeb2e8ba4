-- `make_plan` meets its contract: the columns that the request's predicates name are those of its catalogue.
use Rattle.input.proofs.InHand.{input_columns}
use Rattle.work.proofs.make_plan.Goals as goal

pub fill_plan-requires : goal.fill_plan-requires
fill_plan-requires c =
    let G = c.requires.1.1 in
    (G.tabled.located, input_columns G)

pub returns : goal.returns
returns c b ancestors G = record { offsets = _; has_input = G; planned = c.fill_plan.ensures }
