-- `contains` meets its contract: where no place before a has the operand, the answer is that of the places from a on.
use Rattle.predicate.proofs.TextLaws.{contains_end, contains_found, contains_longer, contains_more}
use Rattle.std.proofs.Common.{arith}
use Rattle.predicate.proofs.text.contains.Goals as goal

pub returns-then-text-a : goal.returns-then-text-a
returns-then-text-a c = contains_longer _ _ c.loop-a.a c.loop-a.invariant c.if-text-a.true

pub returns-then-begins_with : goal.returns-then-begins_with
returns-then-begins_with c = contains_found _ _ c.loop-a.a c.loop-a.invariant (omega arith) _ c.begins_with.ensures c.if-begins_with.true

pub loop-a-preserved : goal.loop-a-preserved
loop-a-preserved c = contains_more _ _ c.loop-a.a c.loop-a.invariant (omega arith) _ c.begins_with.ensures c.if-begins_with.false

pub returns : goal.returns
returns c = contains_end _ _ c.loop-a.a c.loop-a.invariant (omega arith)
