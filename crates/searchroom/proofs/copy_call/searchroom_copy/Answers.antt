-- `searchroom_copy` meets its contract: the answer of the copy, packed; the sequence that order 1 leaves open is that of the turns.
use Rattle.probe_log.proofs.InTurn.{in_turn_sequenced}
use Rattle.probe_log.specs.Sequence.{in_turn}
use Rattle.task.specs.Input.{decode_input}
use Rattle.searchroom.proofs.copy_call.searchroom_copy.Goals as goal

pub returns : goal.returns
returns c =
    let a = c.args in
    let D = decode_input a.catalogue.now a.question.now in
    record {
      sequence = in_turn D a.order.now;
      sequenced = in_turn_sequenced D a.order.now;
      leaves = rw (c.pack.ensures, c.numbered.ensures) c.log_question.ensures;
    }
