-- `gather_words` meets its contract: none has a turn at first, and the next turn is added to the rows of its word.
use Rattle.bitmaps.proofs.TableLaws.{zeros}
use Rattle.bitmaps.specs.Word.{block_rows}
use Rattle.gather.proofs.Gathering.{turn_added, turns_none}
use Rattle.std.proofs.Common.{refl}
use Rattle.gather.proofs.gather_words.Goals as goal

pub loop-i-init : goal.loop-i-init
loop-i-init g c marked h = turns_none refl (zeros block_rows)

pub loop-i-preserved : goal.loop-i-preserved
loop-i-preserved g c marked h =
    turn_added c.word_of.result (c.loop-i.invariant marked h)
    (λ d l. h c.loop-i.i c.word_of.result d c.loop-i-test.true (rw c.from.ensures at c.word_of.ensures) l)
    refl c.add_turn.ensures
