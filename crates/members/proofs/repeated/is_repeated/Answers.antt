-- `is_repeated` meets its contract: none of the predicates from the number left on has the payload, and the others decide.
use Rattle.members.proofs.Repeats.{Unlike, repeated_at, repeated_none, same_shown, unlike_more, unlike_passed}
use Rattle.std.proofs.Common.{arith, sym, ◌+◌}
use Rattle.members.proofs.repeated.is_repeated.Goals as goal

pub returns-then-is_payload_at : goal.returns-then-is_payload_at
returns-then-is_payload_at c =
    let a = c.args in
    let k = c.in-Some.c in
    let l = c.in-Some.ensures.inside in
    repeated_at a.payload.now a.earlier.q.now a.earlier.offsets.now _ k (same_shown a.earlier.q.now a.earlier.offsets.now k (a.earlier.has_fields.each k (omega arith)) a.payload.now _ c.is_payload_at.ensures)
    _ (omega arith) c.if-is_payload_at.true

pub loop-c-preserved : goal.loop-c-preserved
loop-c-preserved c =
    let a = c.args in
    let k = c.in-Some.c in
    let u = c.in-Some.ensures in
    let l = u.inside in
    let i = c.loop-c.invariant in
    let passed : Unlike a.payload.now a.earlier.q.now a.earlier.offsets.now (k + 1) a.earlier.n =
    unlike_passed a.payload.now a.earlier.q.now a.earlier.offsets.now _ a.earlier.n _ (k + 1) c.requires c.head-h.ensures a.earlier.has_fields.each i.0 u.others i.1 in (
      omega arith,
      unlike_more a.payload.now a.earlier.q.now a.earlier.offsets.now _ k (same_shown a.earlier.q.now a.earlier.offsets.now k (a.earlier.has_fields.each k (omega arith)) a.payload.now _ c.is_payload_at.ensures)
          a.earlier.n passed c.if-is_payload_at.false,
    )

pub returns : goal.returns
returns c =
    let a = c.args in
    let i = c.loop-c.invariant in
    sym (repeated_none _ _ _ _ (unlike_passed a.payload.now a.earlier.q.now a.earlier.offsets.now _ a.earlier.n _ 0 c.requires c.head-h.ensures a.earlier.has_fields.each i.0 c.in_default.ensures i.1))
