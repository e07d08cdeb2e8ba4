-- Laws of spans in a live set, and of one group on a probe's way outward.
use Rattle.std.specs.Prelude.{ℕ, zero, suc, ◌+◌, ◌≡◌, refl, Bool, true, false, not, ◌⊎◌, ltb, leb}
use Rattle.std.proofs.Common.{arith, inl, inr}
use Rattle.bools.specs.Bools.{which, clash, not_true, both, and_parts, or_cases, or_fails, same?, ltb_yes, ltb_lt, leb_yes, leb_le}
use Rattle.strategy.specs.Tree.{InSpan}
use Rattle.strategy.proofs.TreeLaws.{settles_self, settles_not}
use Rattle.strategy.specs.Live.{Live, in_span, without, meets, Step, through}

module _ (i n d : ℕ) where
  pub in_span_yes : InSpan i n d → in_span i n d ≡ true
  unfolding in_span
  in_span_yes r = both (leb_yes i d r.0) (ltb_yes d (i + n) r.1)

  pub in_span_of : in_span i n d ≡ true → InSpan i n d
  unfolding in_span
  in_span_of h = let hs = and_parts (leb i d) (ltb d (i + n)) h in (leb_le i d hs.0, ltb_lt d (i + n) hs.1)

  pub in_span_no : (InSpan i n d → ⊥) → in_span i n d ≡ false
  in_span_no r = not_true (in_span i n d) (λ e. r (in_span_of e))

  pub without_in : (live : Live) → InSpan i n d → without i n live d ≡ false
  unfolding without
  without_in live r = rw (in_span_yes r)

  pub without_off : (live : Live) → (InSpan i n d → ⊥) → without i n live d ≡ live d
  unfolding without
  without_off live r = rw (in_span_no r)

pub meets_gives : (i n : ℕ) (live : Live) → meets i n live ≡ true → (d : ℕ) × InSpan i n d × (live d ≡ true)
unfolding meets
meets_gives i zero live h = clash h refl
meets_gives i (suc n) live h =
    let go : (live i ≡ true) ⊎ (meets (suc i) n live ≡ true) → (d : ℕ) × InSpan i (suc n) d × (live d ≡ true)
    = elim [ inl e ↦ (i, omega arith, e) | inr e ↦ (let r = meets_gives (suc i) n live e in let j = r.1 in (r.0, omega arith, r.2)) ] in
    go (or_cases (live i) (meets (suc i) n live) h)

pub meets_none : (i n : ℕ) (live : Live) → meets i n live ≡ false → (d : ℕ) → InSpan i n d → live d ≡ false
unfolding meets
meets_none i zero live h d r = absurd (omega arith)
meets_none i (suc n) live h d r =
    let hs = or_fails (live i) (meets (suc i) n live) h in
    let go : (d ≡ i) ⊎ (d ≡ i → ⊥) → live d ≡ false = elim [ inl e ↦ rw e hs.0 | inr e ↦ meets_none (suc i) n live hs.1 d (omega arith) ] in
    go (same? d i)

pub meets_yes : (i n : ℕ) (live : Live) (d : ℕ) → InSpan i n d → live d ≡ true → meets i n live ≡ true
meets_yes i n live d r e = go (which (meets i n live))
  where
    go : (meets i n live ≡ true) ⊎ (meets i n live ≡ false) → meets i n live ≡ true
    go (inl h) = h
    go (inr h) = clash e (meets_none i n live h d r)

pub meets_no : (i n : ℕ) (live : Live) → ((d : ℕ) → InSpan i n d → live d ≡ false) → meets i n live ≡ false
meets_no i n live z = not_true (meets i n live) (λ h. (let r = meets_gives i n live h in clash r.2 (z r.0 r.1)))

-- the three things that can happen at a group
module _ (k v : Bool) (i n : ℕ) (s : Step) where
  pub through_settles : s.settled ≡ true → v ≡ k → through k v i n s ≡ record { live = without i n s.live; settled = true }
  unfolding through
  through_settles d e = rw (d, e, settles_self k)

  pub through_asks : s.settled ≡ true → v ≡ not k → through k v i n s ≡ record { live = s.live; settled = not (meets i n s.live) }
  unfolding through
  through_asks d e = rw (d, settles_not k v e)

  pub through_stopped : s.settled ≡ false → through k v i n s ≡ s
  unfolding through
  through_stopped d = rw d
