-- The filters pass every slot whose text passes the test.
use Prim.Native.Nat.{ℕ, ◌+◌, ◌-◌, ◌≤◌, ◌<◌}
use native.Mathlib.Omega.{arith}
use mathlib.Core.Path.{◌≡◌, sym, ap, ◌∙◌}
use mathlib.Core.Bool.{Bool, true, false, ◌||◌}
use mathlib.Core.Logic.{◌⊎◌, inl, inr}
use mathlib.Core.List.{List}
use lib.ListN.{length, get_or, drop}
use lib.Bits.{bit_or}
use lib.Dec.{leb}
use Rattle.bools.specs.Bools.{both, or_left, or_right, same?, clash}
use Rattle.catalogue.specs.Format.{text_tag}
use Rattle.slots.specs.Slots.{slot_size, text_limit, text_at}
use Rattle.catalogue.proofs.Rows.{has_text}
use Rattle.fields.specs.Numbers.{Bytes}
use Rattle.predicate.specs.Kinds.{equals_kind, begins_kind, contains_kind}
use Rattle.predicate.specs.Meaning.{fold, equals, begins_with, contains, text_test}
use Rattle.sets.specs.Set.{has}
use Rattle.sets.specs.Kept.{KeptBy, Sifted}
use Rattle.sets.specs.KeptLaws.{kept_sifts, kept_either}
use Rattle.heads.specs.declared.head.Head.{Head}
use Rattle.heads.specs.Block.{HasDueRows, slot_of, text_of}
use Rattle.filters.specs.Windows.{InReach, pair_as, windows_pass}
use Rattle.filters.specs.NonAscii.{is_non_ascii, non_ascii_in}
use Rattle.filters.proofs.SomeLaws.{some_there}
use Rattle.heads.specs.ByteTest.{test_passes, is_loose, tight_test}
use Rattle.heads.specs.Head.{head_passes, Starts, HeadFor}
use Rattle.heads.proofs.ByteTests.{tight_or_non_ascii}
use Rattle.filters.proofs.Pairs.{windows_see}
use Rattle.heads.proofs.Found.{contains_from, equals_whole, text_size, found_size, found_byte}

-- one slot
module _ (b : List ℕ) (bytes : Bytes b) (o : List ℕ) (some : 0 < length o)
    (p : ℕ) (fits : (p + slot_size ≤ length b) × (get_or b p 0 ≤ text_limit)) where
  front_alike : begins_with o (text_at b p) ≡ true → (i : ℕ) → i < length o → fold (get_or b (p + 1 + i) 0) ≡ fold (get_or o i 0)
  front_alike e i h =
      let z : p + 1 + 0 + i ≡ p + 1 + i = omega arith in
      rw z at (found_byte b p fits.0 fits.1 o some 0 e i h)

  pub equals_starts : (kind : ℕ) → equals o (text_at b p) ≡ true → Starts kind o b p
  equals_starts kind e =
      let w = equals_whole o (text_at b p) e in
      record { bytes = bytes; sized = λ q. sym (text_size b p fits.0 fits.1) ∙ w.0; alike = front_alike w.1 }

  pub begins_starts : (kind : ℕ) → (kind ≡ equals_kind → ⊥) → begins_with o (text_at b p) ≡ true → Starts kind o b p
  begins_starts kind other e = record { bytes = bytes; sized = λ q. absurd (other q); alike = front_alike e }

  -- a byte of the operand, where this is found at place a: it passes its tight test; or it is a loose letter, and there is a byte from 128 on
  found_tight : (a : ℕ) → begins_with o (drop a (text_at b p)) ≡ true → (i : ℕ) → i < length o
      → (test_passes (tight_test (fold (get_or o i 0))) (get_or b (p + 1 + (a + i)) 0) ≡ true) ⊎ ((is_loose (fold (get_or o i 0)) ≡ true) × (non_ascii_in b p slot_size ≡ true))
  found_tight a found i h = go (tight_or_non_ascii x (fold (get_or o i 0)) (bytes place) (ap (λ (j : ℕ). fold (get_or b j 0)) same ∙ found_byte b p fits.0 fits.1 o some a found i h))
    where
      place : ℕ
      place = p + 1 + (a + i)

      x : ℕ
      x = get_or b place 0

      same : place ≡ p + 1 + a + i
      same = omega arith

      go : (test_passes (tight_test (fold (get_or o i 0))) x ≡ true) ⊎ ((is_loose (fold (get_or o i 0)) ≡ true) × (leb 128 x ≡ true))
          → (test_passes (tight_test (fold (get_or o i 0))) x ≡ true) ⊎ ((is_loose (fold (get_or o i 0)) ≡ true) × (non_ascii_in b p slot_size ≡ true))
      go (inl e) = inl e
      go (inr e) =
          let size = found_size b p fits.0 fits.1 o some a found in
          let l = fits.1 in
          let z : p + (1 + a + i) ≡ place = omega arith in
          inr (e.0, some_there (is_non_ascii b p) slot_size (1 + a + i) (omega arith) (rw z e.1))

  contains_passes : (i j : ℕ) → InReach (length o) i j → contains o (text_at b p) ≡ true
      → (windows_pass b p (pair_as o i j) ≡ true) ⊎ (((pair_as o i j).loose ≡ true) × (non_ascii_in b p slot_size ≡ true))
  contains_passes i j R e = go (found_tight a found i (omega (arith, R.after, R.inside))) (found_tight a found j R.inside)
    where
      a : ℕ
      a = (contains_from o (text_at b p) e).0

      found : begins_with o (drop a (text_at b p)) ≡ true
      found = (contains_from o (text_at b p) e).1

      size : a + length o ≤ get_or b p 0
      size = found_size b p fits.0 fits.1 o some a found

      Tight : ℕ → Type 0
      Tight i = test_passes (tight_test (fold (get_or o i 0))) (get_or b (p + 1 + (a + i)) 0) ≡ true

      Loose : ℕ → Type 0
      Loose i = (is_loose (fold (get_or o i 0)) ≡ true) × (non_ascii_in b p slot_size ≡ true)

      go : Tight i ⊎ Loose i → Tight j ⊎ Loose j → (windows_pass b p (pair_as o i j) ≡ true) ⊎ (((pair_as o i j).loose ≡ true) × (non_ascii_in b p slot_size ≡ true))
      go (inl f) (inl g) =
          let r = R.after in
          let s = R.inside in
          let n = R.near in
          let l = fits.1 in
          let z : p + 1 + (a + i) + (j - i) ≡ p + 1 + (a + j) = omega arith in
          inl (windows_see b p (a + i) (pair_as o i j) (omega (arith, size)) (omega arith) (both f (rw z g)))
      go (inr f) g = inr (or_left (is_loose (fold (get_or o j 0))) f.0, f.1)
      go (inl f) (inr g) = inr (or_right (is_loose (fold (get_or o i 0))) g.0, g.1)

-- all due rows
module _ (b : List ℕ) (bytes : Bytes b) (start base : ℕ) (o : List ℕ) (due : ℕ) (D : HasDueRows b text_tag start base due) (some : 0 < length o) where
  fits : (d : ℕ) → has due d ≡ true → (slot_of start (base + d) + slot_size ≤ length b) × (get_or b (slot_of start (base + d)) 0 ≤ text_limit)
  fits d m = has_text b start (base + d) (D d m)

  -- what two places of the operand tell
  module _ (i j : ℕ) (R : InReach (length o) i j) where
    abbrev pair_seen : ℕ → Bool
    pair_seen d = windows_pass b (slot_of start (base + d)) (pair_as o i j)

    abbrev non_ascii_seen : ℕ → Bool
    non_ascii_seen d = non_ascii_in b (slot_of start (base + d)) slot_size

    passes : (d : ℕ) → has due d ≡ true → contains o (text_of b start (base + d)) ≡ true → (pair_seen d ≡ true) ⊎ (((pair_as o i j).loose ≡ true) × (non_ascii_seen d ≡ true))
    passes d m t = contains_passes b bytes o some (slot_of start (base + d)) (fits d m) i j R t

    pub pair_sifts : (r : ℕ) → (pair_as o i j).loose ≡ false → KeptBy pair_seen due r → Sifted (λ d. contains o (text_of b start (base + d))) due r
    pair_sifts r none F = kept_sifts pair_seen (λ d. contains o (text_of b start (base + d))) due r F (λ d m t. go d (passes d m t))
      where
        go : (d : ℕ) → (pair_seen d ≡ true) ⊎ (((pair_as o i j).loose ≡ true) × (non_ascii_seen d ≡ true)) → pair_seen d ≡ true
        go d (inl e) = e
        go d (inr e) = clash e.0 none

    pub pair_or_non_ascii_sifts : (r s : ℕ) → KeptBy pair_seen due r → KeptBy non_ascii_seen due s → Sifted (λ d. contains o (text_of b start (base + d))) due (bit_or r s)
    pair_or_non_ascii_sifts r s F G =
        kept_sifts (λ d. pair_seen d || non_ascii_seen d) (λ d. contains o (text_of b start (base + d))) due (bit_or r s) (kept_either pair_seen non_ascii_seen due r s F G) (λ d m t. go d (passes d m t))
      where
        go : (d : ℕ) → (pair_seen d ≡ true) ⊎ (((pair_as o i j).loose ≡ true) × (non_ascii_seen d ≡ true)) → (pair_seen d || non_ascii_seen d) ≡ true
        go d (inl e) = or_left (non_ascii_seen d) e
        go d (inr e) = or_right (pair_seen d) e.1

  module _ (kind r : ℕ) where
    pub contains_sifts : kind ≡ contains_kind → Sifted (λ d. contains o (text_of b start (base + d))) due r → Sifted (λ d. text_test kind o (text_of b start (base + d))) due r
    unfolding text_test
    contains_sifts e S = rw e S

    pub front_sifts : (k : Head) → HeadFor kind o k → equals_kind ≤ kind → kind < contains_kind → KeptBy (λ d. head_passes b (slot_of start (base + d)) k) due r → Sifted (λ d. text_test kind o (text_of b start (base + d))) due r
    unfolding text_test
    front_sifts k K low high F = go (same? kind equals_kind)
      where
        sifts : ((d : ℕ) → has due d ≡ true → text_test kind o (text_of b start (base + d)) ≡ true → Starts kind o b (slot_of start (base + d))) → Sifted (λ d. text_test kind o (text_of b start (base + d))) due r
        sifts s =
            kept_sifts (λ d. head_passes b (slot_of start (base + d)) k) (λ d. text_test kind o (text_of b start (base + d))) due r F
            (λ d m t. K b (slot_of start (base + d)) (s d m t))

        go : (kind ≡ equals_kind) ⊎ (kind ≡ equals_kind → ⊥) → Sifted (λ d. text_test kind o (text_of b start (base + d))) due r
        go (inl e) = sifts (λ d m t. equals_starts b bytes o some (slot_of start (base + d)) (fits d m) kind (rw e at t))
        go (inr other) =
            let e : kind ≡ begins_kind = omega arith in
            sifts (λ d m t. begins_starts b bytes o some (slot_of start (base + d)) (fits d m) kind other (rw e at t))
