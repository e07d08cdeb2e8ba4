-- `searchroom_outcome` meets its contract: the answer, packed.
use Rattle.answers.specs.Word.{packed}
use Rattle.std.proofs.Common.{ap, ◌∙◌}
use Rattle.searchroom.proofs.outcome_call.searchroom_outcome.Goals as goal

pub returns : goal.returns
returns c = c.pack.ensures ∙ ap packed (c.numbered.ensures ∙ c.outcome_at.ensures)
