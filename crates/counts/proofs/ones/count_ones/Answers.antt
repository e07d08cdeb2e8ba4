-- `count_ones` meets its contract. Invariant: the sum and the ones of what is left are the ones of the table.
use Rattle.bitmaps.specs.Bitmap.{ones_in}
use Rattle.counts.proofs.WordOnes.{word_next, word_read}
use Rattle.std.proofs.Common.{ap, arith, ◌∙◌, ◌≡◌, ◌/◌, length, List, [], ℕ, get_or}
use Rattle.std.specs.Int.Count.{ones}
use Rattle.words.specs.Words.{word_at}
use Rattle.counts.proofs.ones.count_ones.Goals as goal

pub loop-word-preserved : goal.loop-word-preserved
loop-word-preserved c =
    let t = c.args.table.now in
    let i = c.loop-word.word-index in
    let e = ap ones (word_read _ c.from_le_bytes.ensures) ∙ ap (λ (words : List (List ℕ)). ones (word_at (get_or words i []) 0 8)) c.as_chunks.ensures.front in
    (omega arith, omega arith, omega (arith, e, word_next t (λ j. (c.type_inv.table j).fits) (length t / 8) i (omega arith) (omega arith)))

pub returns : goal.returns
returns c =
    let t = c.args.table.now in
    let e : c.loop-word.word-index ≡ length t / 8 = omega arith in
    let h = rw e at c.loop-word.invariant.2 in
    (omega (arith, h, ap ones_in c.as_chunks.ensures.back), omega arith)
