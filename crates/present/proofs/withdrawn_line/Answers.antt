-- `withdrawn_line` meets its contract: the mark is put before the zeros of a line.
use Rattle.present.proofs.PresentLaws.{withdrawn_line}
use Rattle.present.proofs.withdrawn_line.Goals as goal

pub returns : goal.returns
returns c = withdrawn_line _ _ _ c.requires.1 (λ k. (c.type_inv.catalogue k).fits) c.put.ensures
