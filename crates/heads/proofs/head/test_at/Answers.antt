-- `test_at` meets its contract: the length, any byte, or those that fold as the operand's.
use Rattle.heads.proofs.ByteTests.{may_fold}
use Rattle.heads.proofs.Heads.{test_any, test_byte, test_size}
use Rattle.std.proofs.Common.{arith, refl}
use Rattle.heads.proofs.head.test_at.Goals as goal

pub returns-then-kind-eq-EQUALS : goal.returns-then-kind-eq-EQUALS
returns-then-kind-eq-EQUALS c = test_size _ _ c.if-j-eq0.true c.if-kind-eq-EQUALS.true refl c.requires

pub returns-then-j-eq0 : goal.returns-then-j-eq0
returns-then-j-eq0 c = rw c.any_byte.ensures (test_any _ _ _)

pub returns-then-operand-j : goal.returns-then-operand-j
returns-then-operand-j c = rw c.any_byte-then-operand-j.ensures (test_any _ _ _)

pub returns : goal.returns
returns c =
    rw c.loose_test.ensures (test_byte _ _ (omega arith) (omega arith) c.of-c.ensures (may_fold c.of-c.result (omega arith)))
