-- `put_digits` meets its contract: the last digit stands behind those of a tenth.
use Rattle.lines.specs.LineLaws.{digit_behind, digits_end, tenth_fits}
use Rattle.std.proofs.Common.{arith, length}
use Rattle.lines.proofs.+put_digits.Goals as goal

pub returns-then-x-eq0 : goal.returns-then-x-eq0
returns-then-x-eq0 t c = digits_end c.if-x-eq0.true

pub put_digits-last-requires : goal.put_digits-last-requires
put_digits-last-requires t c =
    let a = c.args in
    (omega arith, omega (arith, tenth_fits a.at a.x (length a.out.now) (omega arith) c.requires))

pub bounds-out-last : goal.bounds-out-last
bounds-out-last t c =
    let a = c.args in
    omega (arith, tenth_fits a.at a.x (length a.out.now) (omega arith) c.requires, c.put_digits-last.ensures.place)

pub returns : goal.returns
returns t c = digit_behind _ (omega arith) c.requires (omega arith) c.put_digits-last.ensures
