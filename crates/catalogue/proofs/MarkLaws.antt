-- The withdrawal mark: its stray bits, what its reading finds, and its bytes there and back.
use Prim.Native.Nat.{ℕ, ◌+◌, ◌-◌, ◌*◌, ◌/◌, ◌%◌, ◌^◌, ◌≤◌, ◌<◌}
use native.Mathlib.Nat.{mod-lt, one-mul}
use native.Mathlib.Omega.{arith}
use mathlib.Core.Path.{◌≡◌, refl, sym, ap, ◌∙◌}
use mathlib.Core.Bool.{Bool, true, false, not, ◌&&◌, cond}
use mathlib.Core.Logic.{◌⊎◌, inl, inr}
use mathlib.Core.List.{List, [], ◌++◌, append-nil}
use lib.ListN.{length, get_or, take, drop, length-drop, drop_of_length-le, get_or-eq_default}
use lib.Seq.{take-length}
use lib.Dec.{leb, eqb, ltb, lit<}
use lib.Pow.{shl_exact}
use borrow.Author.Tests.{eq-eqb, ne_eqb, eqb-true, leb-false, lt-leb}
use Rattle.fields.specs.declared.header.Field.{Field}
use Rattle.std.specs.Prelude.{Option, None, Some, Result, Ok, Err}
use Rattle.fields.specs.Decoded.{Decoded, refused, accepted}
use Rattle.fields.specs.Numbers.{bytes_of, Bytes}
use Rattle.fields.specs.Header.{header_at, header_size, field_of}
use Rattle.fields.proofs.ByteLaws.{bytes_drop}
use Rattle.fields.proofs.Parts.{part_rest}
use Rattle.fields.proofs.FieldLaws.{HeaderIs, header_is, field_written, first_read, payload_read, field_inside, header_read}
use Rattle.bools.specs.Bools.{which, ltb_lt, ltb_le}
use Rattle.sets.specs.Set.{has}
use Rattle.sets.specs.SetLaws.{has_none}
use Rattle.bitmaps.specs.Bit.{bit}
use Rattle.bitmaps.specs.Bitmap.{bytes_for}
use Rattle.bitmaps.proofs.BitLaws.{bit_at, bit_past, has_high, below_high}
use Rattle.catalogue.specs.declared.refusal.Refusal.{Refusal}
use Rattle.catalogue.specs.declared.refusal.Refusal.TheVariants as refusal
use Rattle.catalogue.specs.Format.{mark_tag, row_limit}
use Rattle.catalogue.specs.Catalogue.{Mark, unmarked, marked, Catalogue, is_withdrawn}
use Rattle.catalogue.specs.Mark.{stray_bit, mark_field_of, mark_field_at, mark_of}
use Rattle.catalogue.specs.Encode.{encode_mark}
use Rattle.catalogue.specs.Formed.{FormedBits, FormedMark}

-- STRAY BITS

-- where the rows fill whole bytes there is no byte for a stray bit
pub stray_none : (m : List ℕ) (rows : ℕ) → length m ≡ bytes_for rows → rows % 8 ≡ 0 → false ≡ stray_bit m rows
unfolding stray_bit
stray_none m rows e z =
    let d : get_or m (rows / 8) 0 ≡ 0 = get_or-eq_default m 0 (omega arith) in
    rw (d, z)

-- else it shows in the last byte
pub stray_last : (m : List ℕ) (rows : ℕ) → leb (1 * 2 ^ (rows % 8) % 2 ^ 8) (get_or m (rows / 8) 0) ≡ stray_bit m rows
unfolding stray_bit
stray_last m rows =
    let s : 1 * 2 ^ (rows % 8) % 2 ^ 8 ≡ 2 ^ (rows % 8) = shl_exact {a = 1} 1 (rows % 8) 8 (lit< tt) (omega arith) ∙ one-mul (2 ^ (rows % 8)) in
    ap (λ (x : ℕ). leb x (get_or m (rows / 8) 0)) s

module _ (m : List ℕ) (rows : ℕ) where
  pub stray_unused : length m ≡ bytes_for rows → stray_bit m rows ≡ false → (k : ℕ) → rows ≤ k → bit m k ≡ false
  unfolding stray_bit
  stray_unused e s k l =
      let z : k / 8 * 8 + k % 8 ≡ k = omega arith in
      sym (ap (bit m) z) ∙ bit_at m (k / 8) (k % 8) (mod-lt k (omega arith)) ∙ go (which (ltb (rows / 8) (k / 8)))
    where
      low : get_or m (rows / 8) 0 < 2 ^ (rows % 8)
      low = leb-false _ _ s

      go : (ltb (rows / 8) (k / 8) ≡ true) ⊎ (ltb (rows / 8) (k / 8) ≡ false) → has (get_or m (k / 8) 0) (k % 8) ≡ false
      go (inl y) =
          let j : rows / 8 < k / 8 = ltb_lt (rows / 8) (k / 8) y in
          let d : get_or m (k / 8) 0 ≡ 0 = get_or-eq_default m 0 (omega arith) in
          rw d (has_none (k % 8))
      go (inr y) =
          let j : k / 8 ≤ rows / 8 = ltb_le (rows / 8) (k / 8) y in
          let q : k / 8 ≡ rows / 8 = omega arith in
          rw q (has_high (rows % 8) (get_or m (rows / 8) 0) (k % 8) low (omega arith))

  pub unused_stray : FormedBits rows m → stray_bit m rows ≡ false
  unfolding stray_bit
  unused_stray f =
      lt-leb _ _ (below_high 8 (get_or m (rows / 8) 0) (rows % 8) (f.bytes (rows / 8)) (omega arith)
      (λ d l k. sym (bit_at m (rows / 8) d k) ∙ f.unused (rows / 8 * 8 + d) (omega arith)))

-- WITHDRAWN ROWS

module _ (C : Catalogue) where
  pub withdrawn_marked : (m : List ℕ) → C.mark ≡ marked m → (row : ℕ) → is_withdrawn C row ≡ bit m row
  withdrawn_marked m h row = rw h

  pub withdrawn_unmarked : C.mark ≡ unmarked → (row : ℕ) → is_withdrawn C row ≡ false
  withdrawn_unmarked h row = rw h (bit_past [] row (omega arith))

-- WHAT THE READING FINDS

-- a mark with every check passed
pub mark_whole : (b : List ℕ) (rows at : ℕ) (f : Field) → Some f ≡ header_at b at (length b) → (at ≡ length b → ⊥) → get_or b at 0 ≡ mark_tag
    → f.end - f.start ≡ bytes_for rows → stray_bit (take (f.end - f.start) (drop f.start b)) rows ≡ false → f.end ≡ length b → Ok (Some f.start) ≡ mark_field_at b rows at
unfolding mark_field_at mark_field_of
mark_whole b rows at f q n t s k e =
    rw (ne_eqb at (length b) n, eq-eqb (get_or b at 0) mark_tag t, ← q, eq-eqb (f.end - f.start) (bytes_for rows) s, k, eq-eqb f.end (length b) e)

-- ITS BYTES READ, AND WRITTEN AGAIN

tag_read : (b : List ℕ) (at : ℕ) (m : List ℕ) → drop at b ≡ field_of mark_tag m → get_or b at 0 ≡ mark_tag
unfolding field_of
tag_read b at m h = first_read b at mark_tag (bytes_of 2 (length m) ++ m) h

module _ (b : List ℕ) (rows at : ℕ) where
  -- the encoding of a formed mark at the end of the columns is read as that mark
  pub mark_read : (m : Mark) → at ≤ length b → rows ≤ row_limit → FormedMark rows m → drop at b ≡ encode_mark m → mark_of b (mark_field_at b rows at) ≡ accepted m
  unfolding mark_field_at
  mark_read unmarked l few f h =
      let n : length b - at ≡ 0 = sym (length-drop at b) ∙ ap length h in
      rw (eq-eqb at (length b) (omega arith))
  mark_read (marked m) l few f h =
      let s = f.size in
      let g : drop at b ≡ field_of mark_tag m ++ [] = rw append-nil h in
      let inside = field_inside b at mark_tag m [] g in
      let payload : drop (at + header_size) b ≡ m = payload_read b at mark_tag m [] g ∙ append-nil m in
      let n : length b - (at + header_size) ≡ length m = sym (length-drop (at + header_size) b) ∙ ap length payload in
      let z : at + header_size + length m - (at + header_size) ≡ length m = omega arith in
      let w : Ok (Some (at + header_size)) ≡ mark_field_at b rows at =
      mark_whole b rows at (record { tag = mark_tag; start = at + header_size; end = at + header_size + length m })
      (sym (header_read b at mark_tag m [] g (length b) (omega arith) inside))
      (λ e. omega arith) (tag_read b at m h) (z ∙ s) (rw (z, payload, take-length) (unused_stray m rows f)) (omega arith) in
      rw (← w, payload)

module _ (b : List ℕ) (bytes : Bytes b) (rows at : ℕ) where
  -- what a reading's answer tells of the bytes from the end of the columns on
  abbrev MarkIs : Result (Option ℕ) Refusal → Type 0
  MarkIs (Err e) = Unit {0}
  MarkIs (Ok None) = drop at b ≡ []
  MarkIs (Ok (Some start)) = (drop at b ≡ field_of mark_tag (drop start b)) × FormedBits rows (drop start b)

  field_is : (h : Option Field) → HeaderIs b at (length b) h → get_or b at 0 ≡ mark_tag → MarkIs (mark_field_of b rows h)
  unfolding mark_field_of
  field_is None s t = tt
  field_is (Some found) s t =
      go (eqb (found.end - found.start) (bytes_for rows)) refl (stray_bit (take (found.end - found.start) (drop found.start b)) rows) refl (eqb found.end (length b)) refl
    where
      go : (x : Bool) → eqb (found.end - found.start) (bytes_for rows) ≡ x → (y : Bool) → stray_bit (take (found.end - found.start) (drop found.start b)) rows ≡ y → (z : Bool) → eqb found.end (length b) ≡ z
          → MarkIs (cond (x && not y) (cond z (Ok (Some found.start)) (Err refusal.BytesLeftOver)) (Err refusal.BadMark))
      go false e y f z g = tt
      go true e true f z g = tt
      go true e false f false g = tt
      go true e false f true g =
          let p : found.end ≡ length b = eqb-true _ _ g in
          let n : found.end - found.start ≡ bytes_for rows = eqb-true _ _ e in
          let size : length (drop found.start b) ≡ bytes_for rows = rw length-drop (omega arith) in
          let stray : stray_bit (drop found.start b) rows ≡ false = rw (p, part_rest b found.start) at f in
          let none : drop found.end b ≡ [] = drop_of_length-le b {i = found.end} (omega arith) in
          let k : mark_tag ≡ found.tag = sym t ∙ s.tagged in
          let w : drop at b ≡ field_of found.tag (drop found.start b) ++ drop found.end b =
          field_written b bytes at (length b) found.tag found.start found.end s (omega arith) (drop found.start b) (rw (none, append-nil)) in
          (rw (none, append-nil, ← k) at w, record { size = size; bytes = bytes_drop b found.start bytes; unused = stray_unused (drop found.start b) rows size stray })

  mark_is : MarkIs (mark_field_at b rows at)
  unfolding mark_field_at
  mark_is = go (eqb at (length b)) refl (eqb (get_or b at 0) mark_tag) refl
    where
      go : (x : Bool) → eqb at (length b) ≡ x → (y : Bool) → eqb (get_or b at 0) mark_tag ≡ y
          → MarkIs (cond x (Ok None) (cond y (mark_field_of b rows (header_at b at (length b))) (Err refusal.BytesLeftOver)))
      go true e y f = drop_of_length-le b {i = at} (let p : at ≡ length b = eqb-true _ _ e in omega arith)
      go false e true f = field_is (header_at b at (length b)) (header_is b at (length b)) (eqb-true _ _ f)
      go false e false f = tt

  -- an accepted mark is formed, and the bytes from the end of the columns on are its encoding
  abbrev pub MarkWritten : Decoded Mark → Type 0
  MarkWritten (refused e) = Unit {0}
  MarkWritten (accepted m) = (drop at b ≡ encode_mark m) × FormedMark rows m

  pub mark_written : MarkWritten (mark_of b (mark_field_at b rows at))
  mark_written = go (mark_field_at b rows at) mark_is
    where
      go : (f : Result (Option ℕ) Refusal) → MarkIs f → MarkWritten (mark_of b f)
      go (Err e) i = tt
      go (Ok None) i = (i, tt)
      go (Ok (Some start)) i = i
