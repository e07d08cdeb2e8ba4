-- `sure_of` meets its contract: the bytes put together, the last one first.
use Rattle.fronts.proofs.SureLaws.{asking_end, asking_next, asking_none, asking_small}
use Rattle.std.proofs.Common.{arith}
use Rattle.fronts.proofs.sure.sure_of.Goals as goal

pub loop-i-init : goal.loop-i-init
loop-i-init c = asking_none c.sure_size-size.ensures

pub bounds-operand-i : goal.bounds-operand-i
bounds-operand-i c = let n = c.sure_size-size.ensures.inside in omega arith

pub overflow_mul-asked : goal.overflow_mul-asked
overflow_mul-asked c = let s = asking_small c.loop-i.invariant in omega arith

pub overflow_add-asked : goal.overflow_add-asked
overflow_add-asked c = let s = asking_small c.loop-i.invariant in omega arith

pub overflow_mul-value : goal.overflow_mul-value
overflow_mul-value c = let s = asking_small c.loop-i.invariant in omega arith

pub overflow_add-value : goal.overflow_add-value
overflow_add-value c = let s = asking_small c.loop-i.invariant in omega arith

pub loop-i-preserved : goal.loop-i-preserved
loop-i-preserved c =
    rw (c.from.ensures, c.from-in-loop-i.ensures)
    (asking_next c.loop-i.invariant (omega arith) (λ i. omega (arith, c.type_inv.operand i)) c.of-c.ensures (omega arith) c.asked_bits.ensures)

pub overflow_mul-result : goal.overflow_mul-result
overflow_mul-result c = let s = asking_small c.loop-i.invariant in omega arith

pub overflow_mul-result-2 : goal.overflow_mul-result-2
overflow_mul-result-2 c = let s = asking_small c.loop-i.invariant in omega arith

pub returns : goal.returns
returns c = asking_end c.loop-i.invariant (omega arith)
