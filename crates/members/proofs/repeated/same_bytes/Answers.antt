-- `same_bytes` meets its contract: as long as the bytes before i agree, the answer is that of the bytes from i on.
use Rattle.members.proofs.Repeats.{same_differ, same_end, same_more, same_sizes, words_differ, words_more}
use Rattle.std.proofs.Common.{arith, sym, ◌∙◌}
use Rattle.members.proofs.repeated.same_bytes.Goals as goal

pub returns-then-a-b : goal.returns-then-a-b
returns-then-a-b c = sym (same_sizes _ _ c.if-a-b.true)

pub returns-then-word_at : goal.returns-then-word_at
returns-then-word_at c =
    let l = c.loop-i in
    words_differ c.args.a.now c.args.b.now (λ k. (c.type_inv.a k).fits) (λ k. (c.type_inv.b k).fits) l.invariant.1 l.i l.invariant.2 (omega arith) l.invariant.0
    (λ e. c.if-word_at.true (c.word_at.ensures ∙ e ∙ sym c.word_at-in-loop-i.ensures))

pub loop-i-preserved : goal.loop-i-preserved
loop-i-preserved c =
    let l = c.loop-i in (
      omega arith,
      l.invariant.1,
      words_more c.args.a.now c.args.b.now (λ k. (c.type_inv.a k).fits) (λ k. (c.type_inv.b k).fits) l.invariant.1 l.i l.invariant.2 (omega arith) l.invariant.0
          (sym c.word_at.ensures ∙ c.if-word_at.false ∙ c.word_at-in-loop-i.ensures),
    )

pub returns-then-a-i : goal.returns-then-a-i
returns-then-a-i c = let l = c.loop-i-2 in same_differ _ _ l.i l.invariant.2 l.invariant.1 (omega arith) c.if-a-i.true

pub loop-i-2-preserved : goal.loop-i-2-preserved
loop-i-2-preserved c = let l = c.loop-i-2 in (omega arith, l.invariant.1, same_more _ _ l.i l.invariant.2 l.invariant.1 (omega arith) c.if-a-i.false)

pub returns : goal.returns
returns c = same_end _ _ c.loop-i-2.i c.loop-i-2.invariant.2 c.loop-i-2.invariant.1 (omega arith)
