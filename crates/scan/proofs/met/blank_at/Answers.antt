-- `blank_at` meets its contract: a kind that asks for content answers blank at the blank fields, and no other kind does.
use Rattle.scan.proofs.Shown.{is_text, none_blank, number_column, numbers_blank, text_column, texts_blank}
use Rattle.std.proofs.Common.{sym, ◌∙◌}
use Rattle.scan.proofs.met.blank_at.Goals as goal

pub returns-then-not-asks_content : goal.returns-then-not-asks_content
returns-then-not-asks_content c = none_blank _ c.plain_kind.ensures (sym c.asks_content.ensures ∙ c.if-not-asks_content.true)

pub numbers_blank-requires : goal.numbers_blank-requires
numbers_blank-requires c = c.if-rows-eq-NUMBER_TAG.true

pub returns-then-rows-eq-NUMBER_TAG : goal.returns-then-rows-eq-NUMBER_TAG
returns-then-rows-eq-NUMBER_TAG c =
    let k = c.plain_kind.ensures in
    numbers_blank _ k (sym c.asks_content.ensures ∙ c.if-not-asks_content.false) _ (number_column _ _ k c.requires c.if-rows-eq-NUMBER_TAG.true) c.numbers_blank.ensures

pub texts_blank-requires : goal.texts_blank-requires
texts_blank-requires c = let k = c.plain_kind.ensures in is_text _ _ k c.requires (text_column _ _ k c.requires c.if-rows-eq-NUMBER_TAG.false)

pub returns : goal.returns
returns c =
    let k = c.plain_kind.ensures in
    texts_blank _ k (sym c.asks_content.ensures ∙ c.if-not-asks_content.false) _ (text_column _ _ k c.requires c.if-rows-eq-NUMBER_TAG.false) c.texts_blank.ensures
