-- `searchroom_check_question` meets its contract: the answer, packed.
use Rattle.answers.specs.Word.{packed}
use Rattle.std.proofs.Common.{ap, ◌∙◌}
use Rattle.searchroom.proofs.question_call.searchroom_check_question.Goals as goal

pub returns : goal.returns
returns c = c.pack.ensures ∙ ap packed (c.numbered.ensures ∙ c.check_question.ensures)
