-- `orders::is_order`: the loop's invariant is `Checked`, what is checked and what is left; each path is one of its laws.
use Rattle.orders.specs.OrderSet.{Checked, checked_again, checked_end, checked_high, checked_next, checked_none}
use Rattle.std.proofs.Common.{ap, arith, subst, sym, ◌∙◌}
use Rattle.std.specs.Prelude.{eqb, ◌+◌}
use Rattle.orders.proofs.is_order.Goals as goal
use Rattle.orders.proofs.is_order.Goals.{then-n-c-via-then-n-c, then-n-c-via-else-n-c+then-has}

pub loop-c-init : goal.loop-c-init
loop-c-init c = checked_none _ _

pub returns-then-n-c : goal.returns-then-n-c
returns-then-n-c c =
    let a = c.args in
    let l = c.loop-c in
    elim c.then-n-c.branch [
      | then-n-c-via-then-n-c w ↦ checked_high a.n a.order.now l.c-index l.seen l.invariant (omega arith) w.if-n-c.true
      | then-n-c-via-else-n-c+then-has w ↦ checked_again a.n a.order.now l.c-index l.seen l.invariant (omega arith) (sym w.has.ensures ∙ w.if-has.true)
    ]

pub loop-c-preserved : goal.loop-c-preserved
loop-c-preserved c =
    let a = c.args in
    let l = c.loop-c in
    subst (Checked a.n a.order.now (l.c-index + 1)) (sym c.with-seen.ensures)
    (checked_next a.n a.order.now l.c-index l.seen l.invariant (omega arith) (omega arith) (sym c.has.ensures ∙ c.if-has.false))

pub returns : goal.returns
returns c =
    let a = c.args in
    let l = c.loop-c in
    ap (eqb l.seen) c.below.ensures ∙ checked_end a.n a.order.now l.c-index l.seen l.invariant (omega arith)
