-- `searchroom_typed` meets its contract: the answer of the typed question, packed.
use Rattle.searchroom.proofs.typed_call.searchroom_typed.Goals as goal

pub returns : goal.returns
returns c = rw (c.pack.ensures, c.numbered.ensures) c.type_question.ensures
