-- `record_at` meets its contract: the payload ends where its header says.
use Rattle.std.proofs.Common.{arith}
use Rattle.records.proofs.record_at.Goals as goal

pub record_of-requires : goal.record_of-requires
record_of-requires c = (omega (arith, c.field_end.ensures, c.requires.2.0), omega (arith, c.field_end.ensures, c.requires.2.1))

pub returns : goal.returns
returns c = rw c.field_end.ensures at c.record_of.ensures
