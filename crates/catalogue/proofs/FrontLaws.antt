-- The walk goes front to back: every refusal but that of a cut field is the same whatever bytes follow.
use Prim.Native.Nat.{ℕ, zero, suc, ◌+◌, ◌-◌, ◌*◌, ◌≤◌}
use native.Mathlib.Omega.{arith}
use mathlib.Core.Path.{◌≡◌, refl, sym, ap, ap₂, ◌∙◌}
use mathlib.Core.Bool.{Bool, true, false, not, ◌&&◌, cond}
use mathlib.Core.List.{List, [], ◌++◌}
use lib.ListN.{length, get_or, take, drop, length-append, get_or-append}
use lib.Dec.{leb, eqb}
use borrow.Author.Tests.{ne_eqb, eqb-true, eqb-false, leb-true}
use Rattle.fields.specs.declared.header.Field.{Field}
use Rattle.std.specs.Prelude.{Option, None, Some, Result, Ok, Err}
use Rattle.fields.specs.Decoded.{Decoded, refused, accepted, mapped, and_then}
use Rattle.fields.specs.Numbers.{number_at}
use Rattle.fields.specs.Header.{header_at, some_field}
use Rattle.fields.proofs.FieldLaws.{HeaderIs, FieldAt, header_is, number_front}
use Rattle.fields.proofs.FrontLaws.{appended, part_same, header_farther}
use Rattle.bools.specs.Bools.{and_parts}
use Rattle.slots.specs.Slots.{slot_size, text_limit, zeros_at, valid_slot, valid_slots}
use Rattle.catalogue.specs.declared.column.ColumnField.TheVariants as field
use Rattle.catalogue.specs.declared.first.Counts.{Counts}
use Rattle.catalogue.specs.declared.refusal.Refusal.{Refusal}
use Rattle.catalogue.specs.declared.refusal.Refusal.TheVariants as refusal
use Rattle.bitmaps.specs.Bitmap.{bytes_for}
use Rattle.catalogue.specs.Format.{first_tag, first_size, number_tag, number_size, text_tag, mark_tag, row_limit, column_limit}
use Rattle.catalogue.specs.Catalogue.{Column, Mark, Catalogue}
use Rattle.catalogue.specs.Refusal.{refusal_number}
use Rattle.catalogue.specs.Mark.{stray_bit, mark_field_of, mark_field_at, mark_of}
use Rattle.catalogue.specs.Decode.{ok_counts, counts_at, first_field_of, column_of, Columns, column_before, column_then, columns_at, catalogue_of, first_then, decode_catalogue}

module _ (b tail : List ℕ) where
  abbrev longer : List ℕ
  longer = b ++ tail

  byte_front : (i : ℕ) → suc i ≤ length b → get_or longer i 0 ≡ get_or b i 0
  byte_front i l = get_or-append b tail 0 i l

  zeros_front : (at n : ℕ) → at + n ≤ length b → zeros_at longer at n ≡ zeros_at b at n
  unfolding zeros_at
  zeros_front at zero l = refl
  zeros_front at (suc n) l = rw (byte_front at (omega arith), zeros_front (at + 1) n (omega arith))

  slot_front : (at : ℕ) → at + slot_size ≤ length b → valid_slot longer at ≡ valid_slot b at
  unfolding valid_slot
  slot_front at l = rw (byte_front at (omega arith)) (go (leb (get_or b at 0) text_limit) refl)
    where
      go : (x : Bool) → leb (get_or b at 0) text_limit ≡ x
          → (x && zeros_at longer (at + 1 + get_or b at 0) (text_limit - get_or b at 0)) ≡ (x && zeros_at b (at + 1 + get_or b at 0) (text_limit - get_or b at 0))
      go false e = refl
      go true e =
          let k : get_or b at 0 ≤ text_limit = leb-true _ _ e in
          zeros_front (at + 1 + get_or b at 0) (text_limit - get_or b at 0) (omega arith)

  slots_front : (at n : ℕ) → at + slot_size * n ≤ length b → valid_slots longer at n ≡ valid_slots b at n
  unfolding valid_slots
  slots_front at zero l = refl
  slots_front at (suc n) l = ap₂ ◌&&◌ (slot_front at (omega arith)) (slots_front (at + slot_size) n (omega arith))

  -- a field that is whole without the tail is the same with it
  header_front : {at tag start stop : ℕ} → FieldAt b at (length b) tag start stop → header_at longer at (length longer) ≡ some_field tag start stop
  header_front f = header_farther (appended b tail) f (omega arith) (omega arith) (length longer) (omega (arith, length-append b tail))

  column_front : (rows : ℕ) {at tag start stop : ℕ} → FieldAt b at (length b) tag start stop
      → column_of longer rows (some_field tag start stop) ≡ column_of b rows (some_field tag start stop)
  unfolding column_of
  column_front rows {at} {tag} {start} {stop} f =
      ap (cond (eqb tag number_tag && eqb (stop - start) (number_size * rows)) (Ok (field.Numbers start stop)))
      (go (eqb tag text_tag && eqb (stop - start) (slot_size * rows)) refl)
    where
      go : (x : Bool) → (eqb tag text_tag && eqb (stop - start) (slot_size * rows)) ≡ x
          → cond x (cond (valid_slots longer start rows) (Ok (field.Texts start stop)) (Err refusal.BadSlot)) (Err refusal.NotColumn)
          ≡ cond x (cond (valid_slots b start rows) (Ok (field.Texts start stop)) (Err refusal.BadSlot)) (Err refusal.NotColumn)
      go false e = refl
      go true e =
          let k : stop - start ≡ slot_size * rows = eqb-true _ _ (and_parts (eqb tag text_tag) (eqb (stop - start) (slot_size * rows)) e).1 in
          let s = f.sized in
          let w = f.within in
          rw (slots_front start rows (omega arith))

  first_front : {tag start stop : ℕ} → FieldAt b 0 (length b) tag start stop → first_field_of longer (some_field tag start stop) ≡ first_field_of b (some_field tag start stop)
  unfolding first_field_of
  first_front {tag} {start} {stop} f = go (eqb tag first_tag && eqb (stop - start) first_size) refl
    where
      go : (x : Bool) → (eqb tag first_tag && eqb (stop - start) first_size) ≡ x
          → cond x (counts_at (number_at longer start 2) (get_or longer (start + 2) 0) stop) (Err refusal.NotCatalogue)
          ≡ cond x (counts_at (number_at b start 2) (get_or b (start + 2) 0) stop) (Err refusal.NotCatalogue)
      go false e = refl
      go true e =
          let k : stop - start ≡ first_size = eqb-true _ _ (and_parts (eqb tag first_tag) (eqb (stop - start) first_size) e).1 in
          let s = f.sized in
          let w = f.within in
          rw (number_front b tail start 2 (omega arith), byte_front (start + 2) (omega arith))

  -- what follows the last column; a cut field alone may be whole with the tail
  abbrev MarkAlike : (f f' : Result (Option ℕ) Refusal) → Type 0
  MarkAlike (Err x) f' = (refusal_number x ≡ 1 → ⊥) → f' ≡ Err x
  MarkAlike (Ok None) f' = Unit {0}
  MarkAlike (Ok (Some start)) f' = Unit {0}

  mark_front : (rows : ℕ) {at tag start stop : ℕ} → FieldAt b at (length b) tag start stop → MarkAlike (mark_field_of b rows (some_field tag start stop)) (mark_field_of longer rows (some_field tag start stop))
  unfolding mark_field_of
  mark_front rows {at} {tag} {start} {stop} f =
      rw part_front (go (eqb (stop - start) (bytes_for rows) && not (stray_bit (take (stop - start) (drop start b)) rows)) (eqb stop (length b)) refl)
    where
      part_front : take (stop - start) (drop start longer) ≡ take (stop - start) (drop start b)
      part_front = part_same (appended b tail) start stop (omega arith) (omega (arith, f.sized)) (omega (arith, f.within))

      go : (x y : Bool) → eqb stop (length b) ≡ y
          → MarkAlike (cond x (cond y (Ok (Some start)) (Err refusal.BytesLeftOver)) (Err refusal.BadMark))
          (cond x (cond (eqb stop (length longer)) (Ok (Some start)) (Err refusal.BytesLeftOver)) (Err refusal.BadMark))
      go false y e = λ uncut. refl
      go true true e = tt
      go true false e = λ uncut.
          let w = f.within in
          let k : stop ≡ length b → ⊥ = eqb-false _ _ e in
          rw (ne_eqb stop (length longer) (λ z. k (omega (arith, length-append b tail))))

  mark_alike : (rows at : ℕ) → at ≤ length b → MarkAlike (mark_field_at b rows at) (mark_field_at longer rows at)
  unfolding mark_field_at mark_field_of
  mark_alike rows at l = go (eqb at (length b)) refl
    where
      mark_field : (k : Option Field) → HeaderIs b at (length b) k → MarkAlike (mark_field_of b rows k) (mark_field_of longer rows (header_at longer at (length longer)))
      mark_field None f = λ uncut. absurd (uncut refl)
      mark_field (Some found) f = rw (header_front f) (mark_front rows f)

      other : (y : Bool) → eqb (get_or b at 0) mark_tag ≡ y
          → MarkAlike (cond y (mark_field_of b rows (header_at b at (length b))) (Err refusal.BytesLeftOver))
          (cond y (mark_field_of longer rows (header_at longer at (length longer))) (Err refusal.BytesLeftOver))
      other true e = mark_field (header_at b at (length b)) (header_is b at (length b))
      other false e = λ uncut. refl

      go : (x : Bool) → eqb at (length b) ≡ x
          → MarkAlike (cond x (Ok None) (cond (eqb (get_or b at 0) mark_tag) (mark_field_of b rows (header_at b at (length b))) (Err refusal.BytesLeftOver)))
          (cond (eqb at (length longer)) (Ok None) (cond (eqb (get_or longer at 0) mark_tag) (mark_field_of longer rows (header_at longer at (length longer))) (Err refusal.BytesLeftOver)))
      go true e = tt
      go false e =
          let k : at ≡ length b → ⊥ = eqb-false _ _ e in
          let m : suc at ≤ length b = omega (arith, k) in
          rw (ne_eqb at (length longer) (λ z. k (omega (arith, length-append b tail))), byte_front at m) (other (eqb (get_or b at 0) mark_tag) refl)

  -- the columns: the same refusal, or all there and their end the same
  abbrev ColumnsAlike : (d d' : Decoded Columns) → Type 0
  ColumnsAlike (refused x) d' = (x ≡ 1 → ⊥) → d' ≡ refused x
  ColumnsAlike (accepted C) d' = (C.end ≤ length b) × ((C' : Columns) × (d' ≡ accepted C') × (C'.end ≡ C.end))

  before_alike : (c c' : Column) (d d' : Decoded Columns) → ColumnsAlike d d' → ColumnsAlike (mapped (column_before c) d) (mapped (column_before c') d')
  before_alike c c' (refused x) d' h = λ uncut. rw (h uncut)
  before_alike c c' (accepted C) d' (l, (C', q, r)) = (l, (column_before c' C', rw q, r))

  columns_alike : (rows n at : ℕ) → at ≤ length b → ColumnsAlike (columns_at b rows n at) (columns_at longer rows n at)
  unfolding columns_at column_of
  columns_alike rows zero at l = (l, (record { columns = []; end = at }, refl, refl))
  columns_alike rows (suc n) at l = go (header_at b at (length b)) (header_is b at (length b)) (columns_alike rows n)
    where
      chosen : (start stop : ℕ) (x y z : Bool) → ColumnsAlike (columns_at b rows n stop) (columns_at longer rows n stop)
          → ColumnsAlike
          (column_then b rows (cond x (Ok (field.Numbers start stop)) (cond y (cond z (Ok (field.Texts start stop)) (Err refusal.BadSlot)) (Err refusal.NotColumn))) (λ next. columns_at b rows n next))
          (column_then longer rows (cond x (Ok (field.Numbers start stop)) (cond y (cond z (Ok (field.Texts start stop)) (Err refusal.BadSlot)) (Err refusal.NotColumn))) (λ next. columns_at longer rows n next))
      chosen start stop true y z on = before_alike _ _ (columns_at b rows n stop) (columns_at longer rows n stop) on
      chosen start stop false true true on = before_alike _ _ (columns_at b rows n stop) (columns_at longer rows n stop) on
      chosen start stop false true false on = λ uncut. refl
      chosen start stop false false z on = λ uncut. refl

      go : (k : Option Field) → HeaderIs b at (length b) k → ((next : ℕ) → next ≤ length b → ColumnsAlike (columns_at b rows n next) (columns_at longer rows n next))
          → ColumnsAlike (column_then b rows (column_of b rows k) (λ next. columns_at b rows n next))
          (column_then longer rows (column_of longer rows (header_at longer at (length longer))) (λ next. columns_at longer rows n next))
      go None f on = λ uncut. absurd (uncut refl)
      go (Some found) f on =
          rw (header_front f, column_front rows f)
          (chosen found.start found.end (eqb found.tag number_tag && eqb (found.end - found.start) (number_size * rows)) (eqb found.tag text_tag && eqb (found.end - found.start) (slot_size * rows)) (valid_slots b found.start rows) (on found.end f.within))

  -- the whole
  module _ (e : ℕ) (uncut : e ≡ 1 → ⊥) where
    mark_refused : (g g' : Mark → Catalogue) (f f' : Result (Option ℕ) Refusal) → MarkAlike f f' → mapped g (mark_of b f) ≡ refused e → mapped g' (mark_of longer f') ≡ refused e
    mark_refused g g' (Err x) f' a h = let z : refusal_number x ≡ e = cc in rw (a (λ y. uncut (sym z ∙ y))) (ap refused z)
    mark_refused g g' (Ok None) f' a h = let z : ◌≡◌ {A = ℕ} 0 1 = cc in absurd (omega arith)
    mark_refused g g' (Ok (Some start)) f' a h = let z : ◌≡◌ {A = ℕ} 0 1 = cc in absurd (omega arith)

    columns_refused : (rows : ℕ) (d d' : Decoded Columns) → ColumnsAlike d d' → and_then d (catalogue_of b rows) ≡ refused e → and_then d' (catalogue_of longer rows) ≡ refused e
    columns_refused rows (refused x) d' a h = let z : x ≡ e = cc in rw (a (λ y. uncut (sym z ∙ y))) (ap refused z)
    columns_refused rows (accepted C) d' (l, (C', q, r)) h =
        rw (q, r) (mark_refused _ _ (mark_field_at b rows C.end) (mark_field_at longer rows C.end) (mark_alike rows C.end l) h)

    pub decode_front : decode_catalogue b ≡ refused e → decode_catalogue longer ≡ refused e
    unfolding decode_catalogue first_field_of counts_at
    decode_front h = go (header_at b 0 (length b)) (header_is b 0 (length b)) h
      where
        counted : (rows columns stop : ℕ) (x : Bool) → stop ≤ length b → first_then b (cond x (ok_counts rows columns stop) (Err refusal.CountsOutOfRange)) ≡ refused e
            → first_then longer (cond x (ok_counts rows columns stop) (Err refusal.CountsOutOfRange)) ≡ refused e
        counted rows columns stop true l h = columns_refused rows (columns_at b rows columns stop) (columns_at longer rows columns stop) (columns_alike rows columns stop l) h
        counted rows columns stop false l h = h

        tagged : (f : Result Counts Refusal) (x : Bool) → (first_then b f ≡ refused e → first_then longer f ≡ refused e) → first_then b (cond x f (Err refusal.NotCatalogue)) ≡ refused e
            → first_then longer (cond x f (Err refusal.NotCatalogue)) ≡ refused e
        tagged f true on h = on h
        tagged f false on h = h

        go : (k : Option Field) → HeaderIs b 0 (length b) k → first_then b (first_field_of b k) ≡ refused e
            → first_then longer (first_field_of longer (header_at longer 0 (length longer))) ≡ refused e
        go None f h = let z : 1 ≡ e = cc in absurd (uncut (sym z))
        go (Some found) f h =
            let rows = number_at b found.start 2 in
            let n = get_or b (found.start + 2) 0 in
            rw (header_front f, first_front f)
            (tagged (counts_at rows n found.end) (eqb found.tag first_tag && eqb (found.end - found.start) first_size) (counted rows n found.end (leb rows row_limit && (leb 1 n && leb n column_limit)) f.within) h)
