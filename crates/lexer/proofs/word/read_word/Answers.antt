-- `read_word` meets its contract: what `starts_with` finds is what `strip` takes from the front.
use Rattle.lexer.proofs.WordBytes.{word_strip}
use Rattle.std.proofs.Common.{arith, refl}
use Rattle.lexer.proofs.word.read_word.Goals as goal

pub returns-then-starts_with : goal.returns-then-starts_with
returns-then-starts_with c =
    let found = c.if-starts_with.ensures in
    record { gives = word_strip c.args.word.now c.args.text.now c.args.at found.value; behind = refl; inside = omega (arith, found.bound refl) }

pub returns-else-starts_with : goal.returns-else-starts_with
returns-else-starts_with c = word_strip c.args.word.now c.args.text.now c.args.at c.if-starts_with.ensures.value
