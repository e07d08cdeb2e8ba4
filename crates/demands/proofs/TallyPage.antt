-- The page of the tally, proved: run after run, each reader's number grows by that reader's accepted looks and by nothing else.
use Prim.Native.Nat.{ℕ, zero, suc, ◌+◌, ◌*◌, ◌%◌, ◌^◌}
use native.Mathlib.Omega.{arith}
use mathlib.Core.Path.{◌≡◌, refl, sym, ap, ◌∙◌}
use mathlib.Core.Bool.{Bool, true, false, ◌&&◌, cond}
use mathlib.Core.Logic.{◌⊎◌, inl, inr}
use mathlib.Core.List.{List, [], ◌∷◌}
use lib.ListN.{length, replicate, length-replicate}
use lib.Dec.{eqb}
use Rattle.fields.specs.Numbers.{number_at, Bytes}
use Rattle.fields.proofs.PlaceLaws.{number_of_part}
use Rattle.bools.specs.Bools.{eqb_self, eqb_ne, same?}
use Rattle.bitmaps.proofs.TableLaws.{zeros}
use Rattle.task.specs.Input.{Input}
use Rattle.demands.specs.Run.{Lent, counter_at}
use Rattle.demands.specs.Demands.{InBytes, after, counter_bytes, Kept, FirstBroken}
use Rattle.demands.specs.TallyPage.{Through, looks_by, TallySums, TallyGrows}
use Rattle.demands.proofs.DemandRuns.{Cases, run_cases, kept_gives}
use Rattle.demands.proofs.Demands.{demand_1_refused, bytes_stay, demand_2_tally, demand_2_other_readers}

abbrev IsTally : List ℕ → Type 0
IsTally tally = (length tally ≡ 128) × Bytes tally

-- a number is that of its bytes
same_counter : (s t : List ℕ) (r : ℕ) → counter_bytes s r ≡ counter_bytes t r → counter_at s r ≡ counter_at t r
same_counter s t r e = number_of_part s (r * 8) 8 ∙ ap (λ (b : List ℕ). number_at b 0 8) e ∙ sym (number_of_part t (r * 8) 8)

-- no looks are added, whosever the run is
none : (mine : Bool) → ◌≡◌ {A = ℕ} (cond mine 0 0) 0
none true = refl
none false = refl

module _ (l : Lent) where
  -- a refused run adds none
  refused_adds : (e r : ℕ) → FirstBroken l e → counter_at (after l).tally r ≡ counter_at l.tally r + looks_by r l
  refused_adds e r x =
      let d = demand_1_refused l e x in
      rw (d.3, d.0.4, none (eqb l.reader r && eqb ((after l).word % 2 ^ 8) 0)) (omega arith)

  -- an accepted run adds its looks to its reader's number, and to no other
  kept_adds : (i : Input) → Kept l i → (r : ℕ) → counter_at (after l).tally r ≡ counter_at l.tally r + looks_by r l
  kept_adds i k r = go (same? r l.reader)
    where
      is_accepted : eqb ((after l).word % 2 ^ 8) 0 ≡ true
      is_accepted = rw (kept_gives l i k).1

      go : (r ≡ l.reader) ⊎ (r ≡ l.reader → ⊥) → counter_at (after l).tally r ≡ counter_at l.tally r + looks_by r l
      go (inl e) =
          let t = demand_2_tally l i k in
          rw (e, eqb_self l.reader, is_accepted, t.0) t.2
      go (inr ne) =
          let other : eqb l.reader r ≡ false = eqb_ne l.reader r (λ z. ne (sym z)) in
          rw other (omega (arith, same_counter (after l).tally l.tally r ((demand_2_other_readers l i k).1 r ne)))

  run_adds : InBytes l.request → (r : ℕ) → counter_at (after l).tally r ≡ counter_at l.tally r + looks_by r l
  run_adds bytes r = go (run_cases l bytes)
    where
      go : Cases l → counter_at (after l).tally r ≡ counter_at l.tally r + looks_by r l
      go (inl x) = kept_adds x.0 x.1 r
      go (inr x) = refused_adds x.0 r x.1

  run_keeps : InBytes l.request → IsTally l.tally → IsTally (after l).tally
  run_keeps bytes t = go (run_cases l bytes)
    where
      go : Cases l → IsTally (after l).tally
      go (inl x) = ((demand_2_other_readers l x.0 x.1).0, bytes_stay l x.0 x.1 t.1)
      go (inr x) = rw (demand_1_refused l x.0 x.1).3 t

pub tally_grows : TallyGrows
tally_grows tally [] left h r = rw h (omega arith)
tally_grows tally (l ∷ ls) left h r =
    let first : counter_at (after l).tally r ≡ counter_at l.tally r + looks_by r l = run_adds l h.0 r in
    let same : counter_at l.tally r ≡ counter_at tally r = ap (λ (t : List ℕ). counter_at t r) h.1 in
    omega (arith, tally_grows (after l).tally ls left h.2 r)

through_keeps : (tally : List ℕ) (runs : List Lent) (left : List ℕ) → Through tally runs left → IsTally tally → IsTally left
through_keeps tally [] left h t = rw h t
through_keeps tally (l ∷ ls) left h t = through_keeps (after l).tally ls left h.2 (run_keeps l h.0 (rw h.1 t))

number_zeros : (n at w : ℕ) → number_at (replicate n 0) at w ≡ 0
unfolding number_at
number_zeros n at zero = refl
number_zeros n at (suc w) = rw (number_zeros n at w, zeros n (at + w))

pub tally_sums : TallySums
tally_sums runs left h =
    let t : IsTally left = through_keeps (replicate 128 0) runs left h (length-replicate {A = ℕ} 128 0, λ i. rw (zeros 128 i) (omega arith)) in
    (t.0, t.1, λ r. omega (arith, tally_grows (replicate 128 0) runs left h r, number_zeros 128 (r * 8) 8))
