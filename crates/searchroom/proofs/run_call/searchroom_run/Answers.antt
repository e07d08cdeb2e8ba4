-- `searchroom_run` meets its contract: the answer of the run, packed.
use Rattle.searchroom.proofs.run_call.searchroom_run.Goals as goal

pub returns : goal.returns
returns c = rw (c.pack.ensures, c.numbered.ensures) c.run_question.ensures
