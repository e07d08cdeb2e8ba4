-- `put_word` meets its contract: the eight bytes stand in their place, as in `word_put`.
use Rattle.bitmaps.proofs.Words.{word_put}
use Rattle.std.proofs.Common.{arith, ◌≡◌}
use Rattle.std.specs.Int.{w64, to_le_bytes}
use Rattle.bitmaps.proofs.word.put_word.Goals as goal

-- written out, so that a word one place further is refused for it
pub slice_bounds-copy_from_slice-end : goal.slice_bounds-copy_from_slice-end
slice_bounds-copy_from_slice-end c = omega arith

pub returns : goal.returns
returns c =
    let a = c.args in
    let word : c.copy_from_slice.new.self ≡ to_le_bytes w64 a.x = cc in
    rw word (word_put a.table.now a.at a.x _ (omega arith) c.requires)
