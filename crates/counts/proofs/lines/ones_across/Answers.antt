-- `ones_across` meets its contract: the ones of the seven words are those of their bytes.
use Rattle.counts.proofs.LineOnes.{seven_across}
use Rattle.std.proofs.Common.{ap, arith}
use Rattle.std.specs.Int.Count.{ones}
use Rattle.counts.proofs.lines.ones_across.Goals as goal

pub returns : goal.returns
returns c =
    let a = c.args in
    let e1 = ap ones c.word_at.ensures in
    let e2 = ap ones c.word_at-2.ensures in
    let e3 = ap ones c.word_at-3.ensures in
    let e4 = ap ones c.word_at-4.ensures in
    let e5 = ap ones c.word_at-5.ensures in
    let e6 = ap ones c.word_at-6.ensures in
    let e7 = ap ones c.word_at-7.ensures in
    (omega (arith, seven_across a.table.now a.at (λ j. (c.type_inv.table j).fits) (omega arith), e1, e2, e3, e4, e5, e6, e7), omega arith)
