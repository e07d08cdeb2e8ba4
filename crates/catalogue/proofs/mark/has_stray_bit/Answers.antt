-- `has_stray_bit` meets its contract: where the rows fill whole bytes none is left over, else the last byte tells.
use Rattle.catalogue.proofs.MarkLaws.{stray_last, stray_none}
use borrow.Author.Tests.{eq-eqb}
use Rattle.catalogue.proofs.mark.has_stray_bit.Goals as goal

pub returns-then-used-ne0 : goal.returns-then-used-ne0
returns-then-used-ne0 c = stray_last _ _

pub returns-else-used-ne0 : goal.returns-else-used-ne0
returns-else-used-ne0 c = rw (eq-eqb _ _ c.if-used-ne0.false) (stray_none _ _ c.requires c.if-used-ne0.false)
