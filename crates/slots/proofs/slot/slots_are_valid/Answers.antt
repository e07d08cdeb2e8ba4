-- `slots_are_valid` meets its contract. The invariant: the stray bits seen and the slots left from p on decide the answer.
use Rattle.slots.proofs.Padding.{slot_seen}
use Rattle.slots.proofs.Slots.{slots_done, slots_next}
use Rattle.std.proofs.Common.{arith}
use Rattle.std.specs.Int.Bits.{bit_and}
use Rattle.std.specs.Prelude.{refl}
use Rattle.slots.proofs.slot.slots_are_valid.Goals as goal

pub loop-left-init : goal.loop-left-init
loop-left-init c = (omega arith, refl)

pub loop-left-preserved : goal.loop-left-preserved
loop-left-preserved c =
    let a = c.args in
    let l = c.loop-left in
    let first = c.word_at in
    let second = c.word_at-in-loop-left-2 in
    let third = c.word_at-in-loop-left-4 in
    let first-limits = c.word_at-in-loop-left in
    let second-limits = c.word_at-in-loop-left-3 in
    let third-limits = c.word_at-in-loop-left-5 in
    let seen = slot_seen a.limits.now a.b.now c.requires.0 (λ i. (c.type_inv.limits i).fits) (λ i. (c.type_inv.b i).fits) l.p c.from-k.result
    c.from-k.ensures first.ensures second.ensures third.ensures first-limits.ensures second-limits.ensures third-limits.ensures in (
      omega arith,
      slots_next a.b.now a.at a.n l.p l.left l.x l.y l.z l.invariant.1
          (bit_and first.result first-limits.result) (bit_and second.result second-limits.result) (bit_and third.result third-limits.result) (omega arith) seen,
    )

pub returns : goal.returns
returns c = let l = c.loop-left in let a = c.args in slots_done a.b.now a.at a.n l.p l.left l.x l.y l.z l.invariant.1 (omega arith)
