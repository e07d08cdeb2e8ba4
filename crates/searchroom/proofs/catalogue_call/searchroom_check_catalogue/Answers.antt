-- `searchroom_check_catalogue` meets its contract: the answer, packed.
use Rattle.answers.specs.Word.{packed}
use Rattle.std.proofs.Common.{ap, ◌∙◌}
use Rattle.searchroom.proofs.catalogue_call.searchroom_check_catalogue.Goals as goal

pub returns : goal.returns
returns c = c.pack.ensures ∙ ap packed (c.numbered.ensures ∙ c.check_catalogue.ensures)
