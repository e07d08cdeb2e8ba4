-- The register's parts written one behind the other make its text.
use Rattle.std.specs.Prelude.{ℕ, zero, suc, ◌+◌, ◌-◌, ◌*◌, ◌^◌, ◌≤◌, ◌<◌, ◌≡◌, refl, Bool, true, false, List, length, take, drop}
use Rattle.std.proofs.Common.{zero-add, add-one, arith, sym, ap, ◌∙◌, length-take, length-drop}
use Rattle.fields.specs.Output.{Wrote}
use Rattle.fields.proofs.OutputLaws.{wrote_then, wrote_none, wrote_same, put_front_lem}
use Rattle.bitmaps.specs.Sums.{joined}
use Rattle.bitmaps.specs.Bitmap.{bytes_for, ones_in}
use Rattle.bitmaps.specs.Bit.{bit}
use Rattle.fields.specs.Decimal.{decimal}
use Rattle.lines.specs.Line.{line}
use Rattle.register.specs.Register.{header, found_label, looks_label, condition_label, refused_label, entry_if, entries, looks_of, space, condition_line, conditions, accepted, refused, register_of, Printed}

-- an entry that is listed, and one that is not
module _ {at : ℕ} {old : List ℕ} {b : Bool} (row : ℕ) where
  pub entry_listed : {r : ℕ} {new : List ℕ} → b ≡ true → Wrote at (entry_if true row) old r new → Wrote at (entry_if b row) old r new
  entry_listed e w = wrote_same (ap (λ (b : Bool). entry_if b row) (sym e)) w

  pub entry_not : b ≡ false → Wrote at (entry_if b row) old at old
  entry_not e = wrote_same (ap (λ (b : Bool). entry_if b row) (sym e)) (wrote_none at old)

module _ {at : ℕ} {old : List ℕ} where
  pub entries_none : (listed : List ℕ) → Wrote at (entries listed 0) old at old
  unfolding entries joined
  entries_none listed = wrote_none at old

  pub entries_more : {end r : ℕ} {new newer : List ℕ} (row : ℕ) (listed : List ℕ) → end ≤ length old → Wrote at (entries listed row) old end new
      → Wrote end (entry_if (bit listed row) row) new r newer → Wrote at (entries listed (row + 1)) old r newer
  unfolding entries joined
  entries_more row listed l w v = rw (add-one row) (wrote_then l w v)

  pub conditions_none : (looks : List ℕ) (size : ℕ) → Wrote at (conditions looks size 0) old at old
  unfolding conditions joined
  conditions_none looks size = wrote_none at old

  pub conditions_more : {end r : ℕ} {new newer : List ℕ} (size c : ℕ) (looks : List ℕ) → end ≤ length old → Wrote at (conditions looks size c) old end new
      → Wrote end (condition_line c (looks_of looks size c)) new r newer → Wrote at (conditions looks size (c + 1)) old r newer
  unfolding conditions joined
  conditions_more size c looks l w v = rw (add-one c) (wrote_then l w v)

  pub condition_end : {number end r : ℕ} {a b new : List ℕ} (c count : ℕ) → end ≤ length old
      → Wrote at condition_label old number a → Wrote number (decimal c) a end b → Wrote end (line space count) b r new → Wrote at (condition_line c count) old r new
  unfolding condition_line
  condition_end c count l u v w = wrote_then l (wrote_then (omega (arith, v.place)) u v) w

pub row_short : (size row : ℕ) (looks : List ℕ) → size < 2 ^ 61 → length (take (row + size - row) (drop row looks)) < 2 ^ 61
row_short size row looks h = simp (length-take, length-drop) (omega arith)

-- a condition's line, its looks counted in its row
pub condition_row : {row end r count : ℕ} {old new : List ℕ} (size c : ℕ) (looks : List ℕ) → row ≡ c * size → count ≡ ones_in (take (row + size - row) (drop row looks))
    → Wrote end (condition_line c count) old r new → Wrote end (condition_line c (looks_of looks size c)) old r new
condition_row {row} size c looks e f w =
    let z : row + size - row ≡ size = omega arith in
    rw (f, z, e) at w

-- written from the first byte on
at_front : {r : ℕ} {text old new : List ℕ} → Wrote 0 text old r new → Printed text old r new
at_front {text = text} {old = old} w = (w.bytes ∙ put_front_lem text old, w.place ∙ zero-add (length text))

-- the whole, piece by piece
pub accepted_end : {size a b c d r : ℕ} {old o₁ o₂ o₃ o₄ new : List ℕ} (found look_count_lem rows n : ℕ) (listed looks : List ℕ) → size ≡ bytes_for rows → d ≤ length old
    → Wrote 0 header old a o₁ → Wrote a (line found_label found) o₁ b o₂ → Wrote b (entries listed rows) o₂ c o₃ → Wrote c (line looks_label look_count_lem) o₃ d o₄
    → Wrote d (conditions looks size n) o₄ r new → Printed (accepted found look_count_lem rows n listed looks) old r new
unfolding accepted
accepted_end found look_count_lem rows n listed looks e l u₁ u₂ u₃ u₄ u₅ =
    let w₂ = wrote_then (omega (arith, u₂.place, u₃.place, u₄.place)) u₁ u₂ in
    let w₃ = wrote_then (omega (arith, u₃.place, u₄.place)) w₂ u₃ in
    let w₄ = wrote_then (omega (arith, u₄.place)) w₃ u₄ in
    at_front (wrote_then l w₄ (rw e at u₅))

pub refused_end : {a r : ℕ} {old o new : List ℕ} (number : ℕ) → a ≤ length old → Wrote 0 header old a o → Wrote a (line refused_label number) o r new
    → Printed (refused number) old r new
unfolding refused
refused_end number l u v = at_front (wrote_then l u v)

-- a number other than 0: the register of a refusal, whatever stands beside it
pub register_refused : (number found look_count_lem rows n : ℕ) (listed looks : List ℕ) → (number ≡ 0 → ⊥)
    → register_of number found look_count_lem rows n listed looks ≡ refused number
register_refused zero found look_count_lem rows n listed looks ne = absurd (ne refl)
register_refused (suc e) found look_count_lem rows n listed looks ne = refl

pub register_accepted : (number found look_count_lem rows n : ℕ) (listed looks : List ℕ) → number ≡ 0
    → register_of number found look_count_lem rows n listed looks ≡ accepted found look_count_lem rows n listed looks
register_accepted number found look_count_lem rows n listed looks e = ap (λ (k : ℕ). register_of k found look_count_lem rows n listed looks) e
