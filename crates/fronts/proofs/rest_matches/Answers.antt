-- `rest_matches` meets its contract: as long as the bytes before i agree, the answer is that of the bytes from i on.
use Rattle.fronts.proofs.FrontLaws.{begun}
use Rattle.predicate.proofs.TextLaws.{begins_differ, begins_end, begins_more}
use Rattle.std.proofs.Common.{arith}
use Rattle.fronts.proofs.rest_matches.Goals as goal

pub loop-i-init : goal.loop-i-init
loop-i-init c = let p = c.requires in begun _ _ p.0 p.1

pub bounds-text-i : goal.bounds-text-i
bounds-text-i c = let l = c.requires.0 in omega arith

pub returns-then-of : goal.returns-then-of
returns-then-of c = let l = c.requires.0 in begins_differ _ _ c.loop-i.i c.loop-i.invariant (omega arith) (omega arith) _ _ c.of.ensures c.of-in-loop-i.ensures c.if-of.true

pub loop-i-preserved : goal.loop-i-preserved
loop-i-preserved c = let l = c.requires.0 in begins_more _ _ c.loop-i.i c.loop-i.invariant (omega arith) (omega arith) _ _ c.of.ensures c.of-in-loop-i.ensures c.if-of.false

pub returns : goal.returns
returns c = begins_end _ _ c.loop-i.i c.loop-i.invariant (omega arith)
