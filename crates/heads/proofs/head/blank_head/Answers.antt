-- `blank_head` meets its contract.
use Rattle.heads.proofs.Heads.{blank_head}
use Rattle.heads.proofs.head.blank_head.Goals as goal

pub returns : goal.returns
returns c = blank_head
