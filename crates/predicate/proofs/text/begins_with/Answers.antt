-- `begins_with` meets its contract: as long as the bytes before i agree, the answer is that of the bytes from i on.
use Rattle.predicate.proofs.TextLaws.{begins_differ, begins_end, begins_more, begins_with_longer}
use Rattle.std.proofs.Common.{arith, sym, ◌∙◌}
use Rattle.std.specs.Prelude.{refl}
use borrow.Author.Tests.{eqb-true, eqb-false}
use Rattle.predicate.proofs.text.begins_with.Goals as goal

pub returns-then-text-operand : goal.returns-then-text-operand
returns-then-text-operand c = begins_with_longer _ _ c.if-text-operand.true

pub returns-then-is_empty : goal.returns-then-is_empty
returns-then-is_empty c = let none = eqb-true _ _ (sym c.is_empty.ensures ∙ c.if-is_empty.true) in begins_end _ _ 0 refl (omega arith)

pub returns-then-of : goal.returns-then-of
returns-then-of c =
    let some = eqb-false _ _ (sym c.is_empty.ensures ∙ c.if-is_empty.false) in
    begins_differ _ _ 0 refl (omega arith) (omega arith) _ _ c.of.ensures c.of-2.ensures c.if-of.true

pub loop-i-init : goal.loop-i-init
loop-i-init c =
    let some = eqb-false _ _ (sym c.is_empty.ensures ∙ c.if-is_empty.false) in
    begins_more _ _ 0 refl (omega arith) (omega arith) _ _ c.of.ensures c.of-2.ensures c.if-of.false

pub returns-then-of-2 : goal.returns-then-of-2
returns-then-of-2 c = begins_differ _ _ c.loop-i.i c.loop-i.invariant (omega arith) (omega arith) _ _ c.of-in-loop-i.ensures c.of-in-loop-i-2.ensures c.if-of-2.true

pub loop-i-preserved : goal.loop-i-preserved
loop-i-preserved c = begins_more _ _ c.loop-i.i c.loop-i.invariant (omega arith) (omega arith) _ _ c.of-in-loop-i.ensures c.of-in-loop-i-2.ensures c.if-of-2.false

pub returns : goal.returns
returns c = begins_end _ _ c.loop-i.i c.loop-i.invariant (omega arith)
