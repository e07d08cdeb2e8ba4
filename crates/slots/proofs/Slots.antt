-- The loop over the slots of a column: the stray bits seen and what is left decide.
use Prim.Native.Nat.{ℕ, zero, suc, ◌+◌, ◌-◌, ◌≤◌, ◌<◌}
use native.Mathlib.Omega.{arith}
use mathlib.Core.Path.{◌≡◌, refl, sym, ap, ◌∙◌}
use mathlib.Core.Bool.{Bool, true, false, ◌&&◌, and_assoc, and-true}
use mathlib.Core.List.{List}
use lib.Dec.{eqb}
use lib.Bits.{bit_or}
use Rattle.slots.specs.Slots.{slot_size, valid_slot, valid_slots}
use Rattle.slots.proofs.Padding.{or_none}

slots_step : (b : List ℕ) (p k : ℕ) → 0 < k → valid_slots b p k ≡ (valid_slot b p && valid_slots b (p + slot_size) (k - 1))
unfolding valid_slots
slots_step b p zero h = absurd (omega arith)
slots_step b p (suc k) h = let z : suc k - 1 ≡ k = omega arith in rw z

slots_none : (b : List ℕ) (p k : ℕ) → k ≡ 0 → valid_slots b p k ≡ true
unfolding valid_slots
slots_none b p k e = rw e

-- k slots from p on are left of the n from `at` on; x, y and z have the stray bits of those before
abbrev pub Seen : List ℕ → (at n p k x y z : ℕ) → Type 0
Seen b at n p k x y z = valid_slots b at n ≡ ((eqb x 0 && (eqb y 0 && eqb z 0)) && valid_slots b p k)

module _ (b : List ℕ) (at n p k x y z : ℕ) (S : Seen b at n p k x y z) where
  pub slots_next : (u v w : ℕ) → 0 < k → valid_slot b p ≡ (eqb u 0 && (eqb v 0 && eqb w 0)) → Seen b at n (p + slot_size) (k - 1) (bit_or x u) (bit_or y v) (bit_or z w)
  slots_next u v w l e =
      S ∙ ap (◌&&◌ (eqb x 0 && (eqb y 0 && eqb z 0))) (slots_step b p k l ∙ ap (λ (q : Bool). q && valid_slots b (p + slot_size) (k - 1)) e)
      ∙ joined (eqb x 0) (eqb y 0) (eqb z 0) (eqb u 0) (eqb v 0) (eqb w 0) (valid_slots b (p + slot_size) (k - 1))
      ∙ rw (or_none x u, or_none y v, or_none z w)
    where
      joined : (p q r s t o m : Bool) → ((p && (q && r)) && ((s && (t && o)) && m)) ≡ (((p && s) && ((q && t) && (r && o))) && m)
      joined false q r s t o m = refl
      joined true false r true t o m = refl
      joined true false r false t o m = refl
      joined true true false true true o m = refl
      joined true true false true false o m = refl
      joined true true false false t o m = refl
      joined true true true s t o m = refl

  pub slots_done : k ≤ 0 → eqb (bit_or (bit_or x y) z) 0 ≡ valid_slots b at n
  slots_done l =
      or_none (bit_or x y) z ∙ rw (or_none x y) (and_assoc (eqb x 0) (eqb y 0) (eqb z 0)) ∙ sym (S ∙ ap (◌&&◌ (eqb x 0 && (eqb y 0 && eqb z 0))) (slots_none b p k (omega arith)) ∙ and-true (eqb x 0 && (eqb y 0 && eqb z 0)))
