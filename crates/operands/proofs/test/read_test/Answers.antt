-- `read_test` meets its contract: the word that stands there says what is read behind it.
use Rattle.operands.proofs.TestReads.{test_blank, test_has, test_in, test_is, test_none, test_starts}
use Rattle.std.proofs.Common.{arith}
use Rattle.operands.proofs.test.read_test.Goals as goal

pub returns-in-Some : goal.returns-in-Some
returns-in-Some c =
    let a = c.args in
    test_in a.tags.now a.column a.text.now a.at c.in-Some.ensures a.end a.out.now c.read_range.result c.read_range.new.out c.read_range.ensures

pub returns-in-Some-read_word : goal.returns-in-Some-read_word
returns-in-Some-read_word c =
    let a = c.args in
    rw c.blank_kind.ensures
    (test_blank a.tags.now a.column a.text.now a.at c.in_default.ensures c.in-Some-read_word.ensures a.end a.out.now (omega (arith, c.requires.1)))

pub returns-in-Some-read_word-2 : goal.returns-in-Some-read_word-2
returns-in-Some-read_word-2 c =
    let a = c.args in
    test_is a.tags.now a.column a.text.now a.at c.in_default.ensures c.in_default-read_word.ensures
    c.in-Some-read_word-2.ensures a.end a.out.now c.read_operand.result c.read_operand.new.out c.read_operand.ensures

pub returns-in-Some-read_word-3 : goal.returns-in-Some-read_word-3
returns-in-Some-read_word-3 c =
    let a = c.args in
    let read = c.read_operand-in-Some-read_word-3 in
    test_starts a.tags.now a.column a.text.now a.at c.in_default.ensures c.in_default-read_word.ensures c.in_default-read_word-2.ensures
    c.in-Some-read_word-3.ensures a.end a.out.now read.result read.new.out read.ensures

pub returns-in_err-next : goal.returns-in_err-next
returns-in_err-next c =
    let a = c.args in
    rw c.from_residual.ensures
    (test_none a.tags.now a.column a.text.now a.at c.in_default.ensures c.in_default-read_word.ensures c.in_default-read_word-2.ensures
    c.in_default-read_word-3.ensures c.in_err-next.ensures)

pub returns : goal.returns
returns c =
    let a = c.args in
    let read = c.read_operand-2 in
    test_has a.tags.now a.column a.text.now a.at c.in_default.ensures c.in_default-read_word.ensures c.in_default-read_word-2.ensures
    c.in_default-read_word-3.ensures c.in_ok-next.ensures a.end a.out.now read.result read.new.out read.ensures
