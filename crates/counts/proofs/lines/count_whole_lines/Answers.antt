-- `count_whole_lines` meets its contract: behind the bytes asked for there is no one.
use Rattle.bitmaps.specs.Bitmap.{ones_in}
use Rattle.bitmaps.specs.Table.{lines_of}
use Rattle.counts.proofs.LineOnes.{lines_small}
use Rattle.std.proofs.Common.{ap, arith, ◌∙◌}
use Rattle.std.specs.Prelude.{ℕ}
use Rattle.counts.proofs.lines.count_whole_lines.Goals as goal

pub returns : goal.returns
returns c =
    let w = c.whole_words in
    let f = c.args.lines in (
      c.count_lines.ensures.0 ∙ ap (λ (k : ℕ). ones_in (lines_of k f.table.now f.n)) w.ensures ∙ c.requires.1,
      omega (arith, c.count_lines.ensures.1, lines_small w.result f.n (omega arith)),
    )
