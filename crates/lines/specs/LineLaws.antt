-- The digits of a number, a number and a line, written piece by piece.
use Rattle.std.specs.Prelude.{ℕ, suc, ◌+◌, ◌/◌, ◌%◌, ◌^◌, ◌≤◌, ◌<◌, ◌≡◌, List, [], ◌∷◌, length, set}
use Rattle.std.proofs.Common.{arith, sym, ap, ◌∙◌, length-append}
use Rattle.fields.specs.Decimal.{digits_of, decimal}
use Rattle.fields.specs.Output.{Wrote}
use Rattle.fields.proofs.DecimalLaws.{digits_more, digits_none, digits_few, decimal_zero, decimal_more}
use Rattle.fields.proofs.OutputLaws.{wrote_then, wrote_none, wrote_same, wrote_byte}
use Rattle.lines.specs.Line.{number_room, line}

-- an eight-byte number has no more digits than there is room for
pub digits_length : (x : ℕ) → x < 2 ^ 64 → length (digits_of x) ≤ number_room
digits_length x l = digits_few number_room (suc x) x (omega arith)

pub digits_end : {at x : ℕ} {old : List ℕ} → x ≡ 0 → Wrote at (digits_of x) old at old
digits_end {at} {x} {old} e = wrote_same (sym (ap digits_of e ∙ digits_none)) (wrote_none at old)

digits_count : (x : ℕ) → 0 < x → length (digits_of x) ≡ length (digits_of (x / 10)) + 1
digits_count x l = ap length (digits_more x l) ∙ length-append (digits_of (x / 10)) ((48 + x % 10) ∷ [])

pub tenth_fits : (at x k : ℕ) → 0 < x → at + length (digits_of x) ≤ k → at + length (digits_of (x / 10)) < k
tenth_fits at x k l h = omega (arith, digits_count x l)

pub digit_behind : {at last : ℕ} {old new : List ℕ} (x : ℕ) → 0 < x → at + length (digits_of x) ≤ length old → length new ≡ length old
    → Wrote at (digits_of (x / 10)) old last new → Wrote at (digits_of x) old (last + 1) (set new last (48 + x % 10))
digit_behind {at} {last} {old} {new} x l h e w =
    let m : at + length (digits_of (x / 10)) < length old = tenth_fits at x (length old) l h in
    wrote_same (sym (digits_more x l)) (wrote_then (omega (arith, w.place)) w (wrote_byte last (48 + x % 10) new (omega (arith, w.place))))

pub number_zero : {at x r : ℕ} {old new : List ℕ} → x ≡ 0 → Wrote at (48 ∷ []) old r new → Wrote at (decimal x) old r new
number_zero e w = wrote_same (sym (ap decimal e ∙ decimal_zero)) w

pub number_more : {at x r : ℕ} {old new : List ℕ} → 0 < x → Wrote at (digits_of x) old r new → Wrote at (decimal x) old r new
number_more {x = x} l w = wrote_same (sym (decimal_more x l)) w

pub line_end : {at number end r : ℕ} {label old a b new : List ℕ} (x : ℕ) → end ≤ length old
    → Wrote at label old number a → Wrote number (decimal x) a end b → Wrote end (10 ∷ []) b r new → Wrote at (line label x) old r new
unfolding line
line_end x l u v w = wrote_then l (wrote_then (omega (arith, v.place)) u v) w
