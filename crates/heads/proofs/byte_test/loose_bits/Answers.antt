-- `loose_bits` meets its contract: each arm is the case of `loose_bits` that its letter chooses.
use Rattle.fields.proofs.Tests.{tests}
use Rattle.heads.proofs.ByteTests.{at_key}
use Rattle.heads.specs.ByteTest.{loose_bits}
use Rattle.std.proofs.Common.{arith}
use Rattle.heads.proofs.byte_test.loose_bits.Goals as goal

pub returns-in-97 : goal.returns-in-97
returns-in-97 c = at_key loose_bits c.args.c 97 (omega arith)

pub returns-in-101 : goal.returns-in-101
returns-in-101 c = at_key loose_bits c.args.c 101 (omega arith)

pub returns-in-105 : goal.returns-in-105
returns-in-105 c = at_key loose_bits c.args.c 105 (omega arith)

pub returns-in-110 : goal.returns-in-110
returns-in-110 c = at_key loose_bits c.args.c 110 (omega arith)

pub returns-in-111 : goal.returns-in-111
returns-in-111 c = at_key loose_bits c.args.c 111 (omega arith)

pub returns-in-117 : goal.returns-in-117
returns-in-117 c = at_key loose_bits c.args.c 117 (omega arith)

pub returns-in_default : goal.returns-in_default
returns-in_default c = search (tests, c.tight_bits.ensures)
