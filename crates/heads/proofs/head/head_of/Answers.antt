-- `head_of` meets its contract: the bytes put together, the last one first.
use Rattle.heads.proofs.Heads.{heading_end, heading_next, heading_none, heading_small}
use Rattle.std.proofs.Common.{arith}
use Rattle.heads.proofs.head.head_of.Goals as goal

pub loop-j-init : goal.loop-j-init
loop-j-init c = heading_none _ _

pub overflow_mul-left_open : goal.overflow_mul-left_open
overflow_mul-left_open c = let s = (heading_small c.loop-j.invariant (omega arith)).0 in omega arith

pub overflow_add-left_open : goal.overflow_add-left_open
overflow_add-left_open c = let s = (heading_small c.loop-j.invariant (omega arith)).0 in let k = c.test_at-next.ensures.mask_small in omega arith

pub overflow_mul-value : goal.overflow_mul-value
overflow_mul-value c = let s = (heading_small c.loop-j.invariant (omega arith)).1 in omega arith

pub overflow_add-value : goal.overflow_add-value
overflow_add-value c = let s = (heading_small c.loop-j.invariant (omega arith)).1 in let k = c.test_at-next.ensures.value_small in omega arith

pub loop-j-preserved : goal.loop-j-preserved
loop-j-preserved c = heading_next c.loop-j.invariant (omega arith) c.test_at-next.ensures c.from.ensures c.from-in-loop-j.ensures

pub returns : goal.returns
returns c = heading_end c.loop-j.invariant (omega arith)
