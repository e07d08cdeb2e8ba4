-- `count_lines` meets its contract. Invariant: the sum is the ones of the lines passed.
use Rattle.bitmaps.specs.Bitmap.{ones_in}
use Rattle.bitmaps.specs.Table.{lines_of}
use Rattle.counts.proofs.LineOnes.{lines_counted, lines_small, none_passed}
use Rattle.std.proofs.Common.{ap, arith, refl, add-zero, mul-le-mul_right, ◌∙◌}
use Rattle.std.specs.Prelude.{ℕ, ◌*◌, ◌+◌, ◌-◌, ◌/◌, ◌≡◌, ◌≤◌}
use native.Mathlib.Nat.{add-mul}
use Rattle.counts.proofs.lines.count_lines.Goals as goal

pub loop-s-init : goal.loop-s-init
loop-s-init c = let f = c.args.lines in none_passed f.table.now f.size

pub overflow_add-sum : goal.overflow_add-sum
overflow_add-sum c =
    let f = c.args.lines in
    let m = c.loop-s.s * 7 in
    let l : m + 7 ≤ f.n = omega arith in
    omega (arith, add-mul m 7 f.size, mul-le-mul_right f.size l, lines_small f.size f.n f.inside.0, f.inside.1)

pub loop-s-preserved : goal.loop-s-preserved
loop-s-preserved c =
    let f = c.args.lines in
    let l = c.loop-s in
    let m = l.s * 7 in
    let z : (l.s + 1) * 7 ≡ m + 7 = omega arith in
    rw z (lines_counted f.table.now f.size m 7 refl l.invariant.0 c.count_seven_lines-sum.ensures.0, omega (arith, add-mul m 7 f.size))

pub overflow_add-result : goal.overflow_add-result
overflow_add-result c =
    let f = c.args.lines in
    let m = f.n / 7 * 7 in
    let z : m + (f.n - m) ≡ f.n = omega arith in
    let e : c.loop-s.s ≡ f.n / 7 = omega arith in
    let h = rw e at c.loop-s.invariant.1 in
    let y : f.size - 0 ≡ f.size = omega arith in
    let each = rw y at c.count_each_line.ensures.1 in
    omega (arith, h, each, add-mul m (f.n - m) f.size, ap (λ (k : ℕ). k * f.size) z, lines_small f.size f.n f.inside.0, f.inside.1)

pub returns : goal.returns
returns c =
    let f = c.args.lines in
    let m = f.n / 7 * 7 in
    let z : m + (f.n - m) ≡ f.n = omega arith in
    let e : c.loop-s.s ≡ f.n / 7 = omega arith in
    let h = rw e at c.loop-s.invariant.0 in
    let k = rw e at c.loop-s.invariant.1 in
    let y : f.size - 0 ≡ f.size = omega arith in
    let each = rw (y, add-zero) at c.count_each_line.ensures in (
      lines_counted f.table.now f.size m (f.n - m) refl h each.0 ∙ ap (λ (j : ℕ). ones_in (lines_of f.size f.table.now j)) z,
      omega (arith, k, each.1, add-mul m (f.n - m) f.size, ap (λ (j : ℕ). j * f.size) z),
    )
