-- `propagate_rows` meets its contract: one ancestor more is passed; where no row goes on, none does to the end.
use Rattle.blocks.proofs.Propagating.{propagate_end, propagate_next, propagate_start, propagate_stops, span_of}
use Rattle.std.proofs.Common.{arith}
use Rattle.blocks.proofs.propagation.propagate_rows.Goals as goal

pub loop-k-init : goal.loop-k-init
loop-k-init c = let a = c.args in propagate_start a.ancestors.now a.c a.met a.due a.live.now

pub pass_ancestor-active-requires : goal.pass_ancestor-active-requires
pass_ancestor-active-requires c = let l = c.loop-k in rw c.place-i.ensures (span_of l.invariant.size (c.requires.each l.k (omega arith)))

pub returns-then-active-eq0 : goal.returns-then-active-eq0
returns-then-active-eq0 c =
    let a = c.args in
    let l = c.loop-k in
    let p = c.pass_ancestor-active in
    rw c.if-active-eq0.true at
    (propagate_stops a.ancestors.now a.c a.met a.due a.live.now l.k l.active l.live l.invariant p.result p.new.live
    (omega arith) (rw c.place-i.ensures at p.ensures) c.if-active-eq0.true)

pub loop-k-preserved : goal.loop-k-preserved
loop-k-preserved c =
    let a = c.args in
    let l = c.loop-k in
    let p = c.pass_ancestor-active in
    propagate_next a.ancestors.now a.c a.met a.due a.live.now l.k l.active l.live l.invariant p.result p.new.live
    (omega arith) (rw c.place-i.ensures at p.ensures)

pub returns : goal.returns
returns c =
    let a = c.args in
    let l = c.loop-k in
    propagate_end a.ancestors.now a.c a.met a.due a.live.now l.k l.active l.live l.invariant (omega arith)
