-- `tight_bits` meets its contract: each arm is the case of `tight_bits` that its letter chooses.
use Rattle.fields.proofs.Tests.{tests}
use Rattle.heads.proofs.ByteTests.{at_key}
use Rattle.heads.specs.ByteTest.{tight_bits}
use Rattle.std.proofs.Common.{arith}
use Rattle.heads.proofs.byte_test.tight_bits.Goals as goal

pub returns-in-99 : goal.returns-in-99
returns-in-99 c = at_key tight_bits c.args.c 99 (omega arith)

pub returns-in-121 : goal.returns-in-121
returns-in-121 c = at_key tight_bits c.args.c 121 (omega arith)

pub returns-in_default : goal.returns-in_default
returns-in_default c = search tests
