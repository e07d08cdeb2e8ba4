-- An accepted catalogue is formed, and its bytes are its encoding: the bytes from a place on are the encoding of what is read there,
-- then the bytes after it.
use Prim.Native.Nat.{ℕ, zero, suc, ◌+◌, ◌-◌, ◌*◌, ◌≤◌}
use native.Mathlib.Omega.{arith}
use mathlib.Core.Path.{◌≡◌, refl, sym, ap, ◌∙◌}
use mathlib.Core.Bool.{Bool, true, false, ◌&&◌, cond}
use mathlib.Core.List.{List, [], ◌∷◌, ◌++◌, append_assoc}
use lib.ListN.{length, get_or, take, drop, replicate, length-drop, take-append-drop}
use lib.Seq.{drop-cons, drop-drop, length-take-le}
use lib.Dec.{leb, eqb}
use borrow.Author.Tests.{eqb-true, leb-true}
use Rattle.fields.specs.declared.header.Field.{Field}
use Rattle.std.specs.Prelude.{Option, None, Some, Result, Ok, Err}
use Rattle.fields.specs.Decoded.{Decoded, refused, accepted, mapped, and_then}
use Rattle.fields.specs.Numbers.{number_at, bytes_of, Bytes}
use Rattle.fields.specs.Header.{header_at, field_of}
use Rattle.bools.specs.Bools.{and_left, and_right}
use Rattle.fields.proofs.ByteLaws.{bytes_take, bytes_drop}
use Rattle.fields.proofs.Written.{number_written, number_small}
use Rattle.fields.proofs.FieldLaws.{FieldAt, HeaderIs, header_is, field_written}
use Rattle.catalogue.specs.declared.column.ColumnField.{ColumnField}
use Rattle.catalogue.specs.declared.refusal.Refusal.{Refusal}
use Rattle.catalogue.specs.declared.refusal.Refusal.TheVariants as refusal
use Rattle.catalogue.specs.declared.column.ColumnField.TheVariants as field
use Rattle.catalogue.specs.declared.first.Counts.{Counts}
use Rattle.catalogue.specs.Format.{first_tag, first_size, number_tag, number_size, text_tag, row_limit, column_limit}
use Rattle.catalogue.specs.Catalogue.{Column, numbers, texts, Mark, Catalogue}
use Rattle.slots.specs.Slots.{slot_size, text_limit, text_at, texts_at, zeros_at, valid_slot, valid_slots}
use Rattle.catalogue.specs.Decode.{numbers_at, ok_counts, counts_at, first_field_of, column_of, Columns, column_before, column_then, columns_at, catalogue_of, first_then, decode_catalogue}
use Rattle.catalogue.specs.Encode.{encode_numbers, encode_text, encode_texts, encode_column, encode_columns, encode_counts, encode_catalogue}
use Rattle.catalogue.specs.Mark.{mark_field_at, mark_of}
use Rattle.catalogue.specs.Formed.{AreNumbers, AreTexts, FormedColumn, FormedColumns, Formed}
use Rattle.catalogue.proofs.MarkLaws.{MarkWritten, mark_written}

-- what a column's field tells: it stands there, with a payload of the right size
abbrev ColumnIs : (b : List ℕ) → (rows at : ℕ) → Result ColumnField Refusal → Type 0
ColumnIs b rows at (Err e) = Unit {0}
ColumnIs b rows at (Ok (field.Numbers start stop)) = FieldAt b at (length b) number_tag start stop × (stop - start ≡ number_size * rows)
ColumnIs b rows at (Ok (field.Texts start stop)) = FieldAt b at (length b) text_tag start stop × (stop - start ≡ slot_size * rows) × (valid_slots b start rows ≡ true)

module _ (b : List ℕ) (rows at : ℕ) where
  column_at : (h : Option Field) → HeaderIs b at (length b) h → ColumnIs b rows at (column_of b rows h)
  unfolding column_of
  column_at None s = tt
  column_at (Some found) s =
      go (eqb found.tag number_tag) refl (eqb (found.end - found.start) (number_size * rows)) refl (eqb found.tag text_tag) refl (eqb (found.end - found.start) (slot_size * rows)) refl (valid_slots b found.start rows) refl
    where
      texts_at_lem : (z : Bool) → eqb found.tag text_tag ≡ z → (w : Bool) → eqb (found.end - found.start) (slot_size * rows) ≡ w → (v : Bool) → valid_slots b found.start rows ≡ v
          → ColumnIs b rows at (cond (z && w) (cond v (Ok (field.Texts found.start found.end)) (Err refusal.BadSlot)) (Err refusal.NotColumn))
      texts_at_lem true g true h true k = let t : found.tag ≡ text_tag = eqb-true _ _ g in (rw t at s, eqb-true _ _ h, k)
      texts_at_lem true g true h false k = tt
      texts_at_lem true g false h v k = tt
      texts_at_lem false g w h v k = tt

      go : (x : Bool) → eqb found.tag number_tag ≡ x → (y : Bool) → eqb (found.end - found.start) (number_size * rows) ≡ y → (z : Bool) → eqb found.tag text_tag ≡ z
          → (w : Bool) → eqb (found.end - found.start) (slot_size * rows) ≡ w → (v : Bool) → valid_slots b found.start rows ≡ v
          → ColumnIs b rows at (cond (x && y) (Ok (field.Numbers found.start found.end)) (cond (z && w) (cond v (Ok (field.Texts found.start found.end)) (Err refusal.BadSlot)) (Err refusal.NotColumn)))
      go true e true f z g w h v k = let t : found.tag ≡ number_tag = eqb-true _ _ e in (rw t at s, eqb-true _ _ f)
      go true e false f z g w h v k = texts_at_lem z g w h v k
      go false e y f z g w h v k = texts_at_lem z g w h v k

  column_is : ColumnIs b rows at (column_of b rows (header_at b at (length b)))
  column_is = column_at (header_at b at (length b)) (header_is b at (length b))

formed_cons : (rows : ℕ) (c : Column) (cs : List Column) → FormedColumn rows c → FormedColumns rows cs → FormedColumns rows (c ∷ cs)
formed_cons rows c cs f g zero l = f
formed_cons rows c cs f g (suc i) l = g i (omega arith)

module _ (b : List ℕ) (bytes : Bytes b) where
  -- numbers
  numbers_written : (n at : ℕ) → at + number_size * n ≤ length b → drop at b ≡ encode_numbers (numbers_at b at n) ++ drop (at + number_size * n) b
  unfolding encode_numbers numbers_at
  numbers_written zero at l = let z : at + number_size * 0 ≡ at = omega arith in rw z
  numbers_written (suc n) at l =
      let z : at + number_size + number_size * n ≡ at + number_size * suc n = omega arith in
      number_written b bytes at number_size (omega arith)
      ∙ ap (λ r. bytes_of number_size (number_at b at number_size) ++ r) (rw z at (numbers_written n (at + number_size) (omega arith)))
      ∙ sym (append_assoc (bytes_of number_size (number_at b at number_size)) (encode_numbers (numbers_at b (at + number_size) n)) (drop (at + number_size * suc n) b))

  numbers_count : (n at : ℕ) → length (numbers_at b at n) ≡ n
  unfolding numbers_at
  numbers_count zero at = refl
  numbers_count (suc n) at = ap suc (numbers_count n (at + number_size))

  numbers_small : (n at : ℕ) → AreNumbers (numbers_at b at n)
  unfolding numbers_at
  numbers_small zero at i = omega arith
  numbers_small (suc n) at zero = number_small b bytes at number_size
  numbers_small (suc n) at (suc i) = numbers_small n (at + number_size) i

  -- texts
  zeros_written : (n at : ℕ) → at + n ≤ length b → zeros_at b at n ≡ true → drop at b ≡ replicate n 0 ++ drop (at + n) b
  unfolding zeros_at
  zeros_written zero at l h = let z : at + 0 ≡ at = omega arith in rw z
  zeros_written (suc n) at l h =
      let z : at + 1 + n ≡ at + suc n = omega arith in
      let y : suc at ≡ at + 1 = omega arith in
      let e : get_or b at 0 ≡ 0 = eqb-true _ _ (and_left (eqb (get_or b at 0) 0) (zeros_at b (at + 1) n) h) in
      let r = zeros_written n (at + 1) (omega arith) (and_right (eqb (get_or b at 0) 0) (zeros_at b (at + 1) n) h) in
      drop-cons b at 0 (omega arith) ∙ rw (e, y) (ap (λ s. 0 ∷ s) (rw z at r))

  module _ (at : ℕ) (l : at + slot_size ≤ length b) (valid : valid_slot b at ≡ true) where
    size_small : get_or b at 0 ≤ text_limit
    unfolding valid_slot
    size_small = leb-true _ _ (and_left (leb (get_or b at 0) text_limit) (zeros_at b (at + 1 + get_or b at 0) (text_limit - get_or b at 0)) valid)

    text_size : length (text_at b at) ≡ get_or b at 0
    unfolding text_at
    text_size = let s = size_small in length-take-le (get_or b at 0) (drop (at + 1) b) (rw length-drop (omega arith))

    padding_written : drop (at + 1 + get_or b at 0) b ≡ replicate (text_limit - get_or b at 0) 0 ++ drop (at + slot_size) b
    unfolding valid_slot
    padding_written =
        let s = size_small in
        let z : at + 1 + get_or b at 0 + (text_limit - get_or b at 0) ≡ at + slot_size = omega arith in
        rw z at (zeros_written (text_limit - get_or b at 0) (at + 1 + get_or b at 0) (omega arith)
        (and_right (leb (get_or b at 0) text_limit) (zeros_at b (at + 1 + get_or b at 0) (text_limit - get_or b at 0)) valid))

    text_written : drop at b ≡ encode_text (text_at b at) ++ drop (at + slot_size) b
    unfolding encode_text text_at
    text_written =
        let y : suc at ≡ at + 1 = omega arith in
        let n : length (take (get_or b at 0) (drop (at + 1) b)) ≡ get_or b at 0 = text_size in
        let d : drop (at + 1) b ≡ take (get_or b at 0) (drop (at + 1) b) ++ (replicate (text_limit - get_or b at 0) 0 ++ drop (at + slot_size) b) =
        sym (take-append-drop (get_or b at 0) (drop (at + 1) b))
        ∙ ap (λ r. take (get_or b at 0) (drop (at + 1) b) ++ r) (drop-drop (get_or b at 0) (at + 1) b ∙ padding_written) in
        drop-cons b at 0 (omega arith)
        ∙ rw (y, n)
        (ap (λ r. get_or b at 0 ∷ r)
        (d ∙ sym (append_assoc (take (get_or b at 0) (drop (at + 1) b)) (replicate (text_limit - get_or b at 0) 0) (drop (at + slot_size) b))))

    text_small : length (text_at b at) ≤ text_limit
    text_small = omega (arith, text_size, size_small)

  -- of n slots from a place on
  record TextsAt (at n : ℕ) : Type 0 where
    pub written : drop at b ≡ encode_texts (texts_at b at n) ++ drop (at + slot_size * n) b
    pub count : length (texts_at b at n) ≡ n
    pub are_texts : AreTexts (texts_at b at n)

  text_bytes : (at : ℕ) → Bytes (text_at b at)
  unfolding text_at
  text_bytes at = bytes_take (drop (at + 1) b) (get_or b at 0) (bytes_drop b (at + 1) bytes)

  texts_written : (n at : ℕ) → at + slot_size * n ≤ length b → valid_slots b at n ≡ true → TextsAt at n
  unfolding encode_texts texts_at valid_slots
  texts_written zero at l h =
      let z : at + slot_size * 0 ≡ at = omega arith in
      record { written = rw z; count = refl; are_texts = λ i. (omega arith, λ j. omega arith) }
  texts_written (suc n) at l h =
      let z : at + slot_size + slot_size * n ≡ at + slot_size * suc n = omega arith in
      let v : valid_slot b at ≡ true = and_left (valid_slot b at) (valid_slots b (at + slot_size) n) h in
      let r = texts_written n (at + slot_size) (omega arith) (and_right (valid_slot b at) (valid_slots b (at + slot_size) n) h) in
      record {
        written = text_written at (omega arith) v
            ∙ ap (λ s. encode_text (text_at b at) ++ s) (rw z at r.written)
            ∙ sym (append_assoc (encode_text (text_at b at)) (encode_texts (texts_at b (at + slot_size) n)) (drop (at + slot_size * suc n) b));
        count = ap suc r.count;
        are_texts = elim [
          | zero ↦ (text_small at (omega arith) v, text_bytes at)
          | suc i ↦ r.are_texts i
        ];
      }

  -- columns
  module _ (rows : ℕ) where
    abbrev Written : (n at : ℕ) → Decoded Columns → Type 0
    Written n at (refused e) = Unit {0}
    Written n at (accepted C) = (drop at b ≡ encode_columns C.columns ++ drop C.end b) × (length C.columns ≡ n) × FormedColumns rows C.columns

    before_written : (n at stop : ℕ) (c : Column) (d : Decoded Columns) → drop at b ≡ encode_column c ++ drop stop b → FormedColumn rows c
        → Written n stop d → Written (suc n) at (mapped (column_before c) d)
    unfolding encode_columns
    before_written n at stop c (refused e) h f w = tt
    before_written n at stop c (accepted C) h f w =
        (h ∙ rw w.0 (sym (append_assoc (encode_column c) (encode_columns C.columns) (drop C.end b))), ap suc w.1, formed_cons rows c C.columns f w.2)

    column_written : (n at : ℕ) (f : Result ColumnField Refusal) (rest : ℕ → Decoded Columns) → ColumnIs b rows at f → ((next : ℕ) → Written n next (rest next))
        → Written (suc n) at (column_then b rows f rest)
    unfolding encode_column
    column_written n at (Err e) rest i r = tt
    column_written n at (Ok (field.Numbers start stop)) rest (s, e) r =
        let w = s.sized in
        let v = s.within in
        let z : start + number_size * rows ≡ stop = omega arith in
        before_written n at stop (numbers (numbers_at b start rows)) (rest stop)
        (field_written b bytes at (length b) number_tag start stop s (omega arith) (encode_numbers (numbers_at b start rows)) (rw z at (numbers_written rows start (omega arith))))
        (numbers_count rows start, numbers_small rows start) (r stop)
    column_written n at (Ok (field.Texts start stop)) rest (s, e, valid) r =
        let w = s.sized in
        let v = s.within in
        let z : start + slot_size * rows ≡ stop = omega arith in
        let t = texts_written rows start (omega arith) valid in
        before_written n at stop (texts (texts_at b start rows)) (rest stop)
        (field_written b bytes at (length b) text_tag start stop s (omega arith) (encode_texts (texts_at b start rows)) (rw z at t.written))
        (t.count, t.are_texts) (r stop)

    columns_written : (n at : ℕ) → Written n at (columns_at b rows n at)
    unfolding columns_at encode_columns
    columns_written zero at = (refl, refl, λ i l. absurd (omega arith))
    columns_written (suc n) at =
        column_written n at (column_of b rows (header_at b at (length b))) (λ next. columns_at b rows n next) (column_is b rows at) (λ next. columns_written n next)

  -- the first field
  abbrev CountsAre : Result Counts Refusal → Type 0
  CountsAre (Err e) = Unit {0}
  CountsAre (Ok c) =
      (drop 0 b ≡ field_of first_tag (encode_counts c.rows c.columns) ++ drop c.next b) × (c.rows ≤ row_limit) × (1 ≤ c.columns) × (c.columns ≤ column_limit)

  counts_written : (at : ℕ) → at + 3 ≤ length b → drop at b ≡ encode_counts (number_at b at 2) (get_or b (at + 2) 0) ++ drop (at + 3) b
  counts_written at l =
      let y : suc (at + 2) ≡ at + 3 = omega arith in
      number_written b bytes at 2 (omega arith)
      ∙ ap (λ r. bytes_of 2 (number_at b at 2) ++ r) (rw y at (drop-cons b (at + 2) 0 (omega arith)))
      ∙ sym (append_assoc (bytes_of 2 (number_at b at 2)) (get_or b (at + 2) 0 ∷ []) (drop (at + 3) b))

  counts_is : (start stop : ℕ) → FieldAt b 0 (length b) first_tag start stop → stop - start ≡ first_size → CountsAre (counts_at (number_at b start 2) (get_or b (start + 2) 0) stop)
  unfolding counts_at
  counts_is start stop s e = go (leb (number_at b start 2) row_limit) refl (leb 1 (get_or b (start + 2) 0)) refl (leb (get_or b (start + 2) 0) column_limit) refl
    where
      go : (x : Bool) → leb (number_at b start 2) row_limit ≡ x → (y : Bool) → leb 1 (get_or b (start + 2) 0) ≡ y → (z : Bool) → leb (get_or b (start + 2) 0) column_limit ≡ z
          → CountsAre (cond (x && (y && z)) (ok_counts (number_at b start 2) (get_or b (start + 2) 0) stop) (Err refusal.CountsOutOfRange))
      go false f y g z h = tt
      go true f false g z h = tt
      go true f true g false h = tt
      go true f true g true h =
          let v = s.within in
          let w = s.sized in
          let k : start + 3 ≡ stop = omega arith in (
            field_written b bytes 0 (length b) first_tag start stop s (omega arith) (encode_counts (number_at b start 2) (get_or b (start + 2) 0)) (rw k at (counts_written start (omega arith))),
            leb-true _ _ f,
            leb-true _ _ g,
            leb-true _ _ h,
          )

  first_at : (h : Option Field) → HeaderIs b 0 (length b) h → CountsAre (first_field_of b h)
  unfolding first_field_of
  first_at None s = tt
  first_at (Some found) s = go (eqb found.tag first_tag) refl (eqb (found.end - found.start) first_size) refl
    where
      go : (x : Bool) → eqb found.tag first_tag ≡ x → (y : Bool) → eqb (found.end - found.start) first_size ≡ y
          → CountsAre (cond (x && y) (counts_at (number_at b found.start 2) (get_or b (found.start + 2) 0) found.end) (Err refusal.NotCatalogue))
      go false e y f = tt
      go true e false f = tt
      go true e true f = let t : found.tag ≡ first_tag = eqb-true _ _ e in counts_is found.start found.end (rw t at s) (eqb-true _ _ f)

  -- the whole
  abbrev Whole : Catalogue → Type 0
  Whole c = Formed c × (b ≡ encode_catalogue c)

  columns_whole : (rows columns next : ℕ) (c : Catalogue) (d : Decoded Columns) → CountsAre (ok_counts rows columns next) → Written rows columns next d
      → and_then d (catalogue_of b rows) ≡ accepted c → Whole c
  unfolding encode_catalogue
  columns_whole rows columns next c (refused e) k w h = let z : ◌≡◌ {A = ℕ} 0 1 = cc in absurd (omega arith)
  columns_whole rows columns next c (accepted C) (written, few, some, narrow) (rest, count, each) h = go (mark_of b (mark_field_at b rows C.end)) (mark_written b bytes rows C.end) h
    where
      go : (d : Decoded Mark) → MarkWritten b bytes rows C.end d → mapped (λ m. record { rows = rows; columns = C.columns; mark = m }) d ≡ accepted c → Whole c
      go (refused e) w h = let z : ◌≡◌ {A = ℕ} 0 1 = cc in absurd (omega arith)
      go (accepted m) (marks, formed) h =
          let z : record { rows = rows; columns = C.columns; mark = m } ≡ c = cc in
          rw (← z) (record { rows_few = few; some = omega arith; few = omega arith; each = each; mark = formed }, written ∙ rw (rest, count, marks))

  pub catalogue_written : (c : Catalogue) → decode_catalogue b ≡ accepted c → Formed c × (b ≡ encode_catalogue c)
  unfolding decode_catalogue
  catalogue_written c h = go (first_field_of b (header_at b 0 (length b))) (first_at (header_at b 0 (length b)) (header_is b 0 (length b))) h
    where
      go : (f : Result Counts Refusal) → CountsAre f → first_then b f ≡ accepted c → Formed c × (b ≡ encode_catalogue c)
      go (Err e) k g = let z : ◌≡◌ {A = ℕ} 0 1 = cc in absurd (omega arith)
      go (Ok f) k g = columns_whole f.rows f.columns f.next c (columns_at b f.rows f.columns f.next) k (columns_written f.rows f.columns f.next) g
