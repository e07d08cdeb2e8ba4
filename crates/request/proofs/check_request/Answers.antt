-- `check_request` meets its contract: the order, then each table, then the reader, by its number.
use Rattle.request.proofs.Request.{listed_short, looks_short, no_such_reader_lem, not_order_lem, request_holds}
use Rattle.std.proofs.Common.{sym}
use Rattle.request.proofs.check_request.Goals as goal

pub returns-then-not-is_order : goal.returns-then-not-is_order
returns-then-not-is_order c = not_order_lem _ _ _ _ _ _ (sym c.if-not-is_order.ensures)

pub returns-then-listed-size : goal.returns-then-listed-size
returns-then-listed-size c = listed_short _ _ _ _ _ _ (sym c.if-not-is_order.ensures) c.if-listed-size.true

pub returns-then-looks-n : goal.returns-then-looks-n
returns-then-looks-n c = looks_short _ _ _ _ _ _ (sym c.if-not-is_order.ensures) c.if-listed-size.false c.if-looks-n.true

pub returns-then-reader-ge-LIMIT : goal.returns-then-reader-ge-LIMIT
returns-then-reader-ge-LIMIT c =
    no_such_reader_lem _ _ _ _ _ _ (sym c.if-not-is_order.ensures) c.if-listed-size.false c.if-looks-n.false c.if-reader-ge-LIMIT.true

pub returns : goal.returns
returns c = request_holds _ _ _ _ _ _ (sym c.if-not-is_order.ensures) c.if-listed-size.false c.if-looks-n.false c.if-reader-ge-LIMIT.false
