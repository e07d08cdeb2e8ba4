-- What follows the last column decides: its refusals' numbers, or the mark, by the bytes that stand there.
use Prim.Native.Nat.{ℕ, ◌+◌, ◌-◌, ◌≤◌, ◌<◌}
use native.Mathlib.Omega.{arith}
use mathlib.Core.Path.{◌≡◌, refl, sym, ap, ◌∙◌}
use mathlib.Core.Bool.{Bool, true, false, not, ◌&&◌, cond}
use mathlib.Core.List.{List, [], ◌∷◌, ◌++◌, append_assoc, append-nil}
use lib.ListN.{length, get_or, take, drop, length-drop}
use lib.Seq.{take_all, drop-drop, length-take-le}
use lib.Dec.{eqb}
use borrow.Author.Tests.{eq-eqb, ne_eqb, eqb-true}
use Rattle.std.specs.Prelude.{Some, Ok, Err}
use Rattle.fields.specs.Decoded.{Decoded, refused, accepted, mapped}
use Rattle.fields.specs.Numbers.{number_at, Bytes}
use Rattle.fields.specs.Header.{header_at, some_field, header_size, field_of}
use Rattle.fields.proofs.ByteLaws.{bytes_take, bytes_drop}
use Rattle.fields.proofs.FieldLaws.{header_whole, header_cut, first_dropped, number_dropped}
use Rattle.bitmaps.specs.Bitmap.{bytes_for}
use Rattle.catalogue.specs.declared.refusal.Refusal.TheVariants as refusal
use Rattle.catalogue.specs.Format.{first_tag, mark_tag, field_cut, bytes_left_over, bad_mark}
use Rattle.catalogue.specs.Catalogue.{Mark, unmarked, marked, Catalogue, with_mark}
use Rattle.catalogue.specs.Mark.{stray_bit, mark_field_of, mark_field_at, mark_of}
use Rattle.catalogue.specs.Decode.{decode_catalogue}
use Rattle.catalogue.specs.Encode.{encode_counts, encode_columns, encode_catalogue}
use Rattle.catalogue.specs.Formed.{FormedBits, Formed}
use Rattle.catalogue.proofs.MarkLaws.{stray_unused, unused_stray}
use Rattle.catalogue.proofs.DecodeLaws.{columns_end, after_stands, after_inside, decode_columns}
use Rattle.demands.specs.Demands.{declared_size, declared_payload}

module _ (b : List ℕ) (rows at : ℕ) (tail : List ℕ) (stands : drop at b ≡ tail) (inside : at ≤ length b) where
  tail_length : length b ≡ at + length tail
  tail_length = let n : length b - at ≡ length tail = sym (length-drop at b) ∙ ap length stands in omega arith

  tag_there : get_or b at 0 ≡ get_or tail 0 0
  tag_there = first_dropped b at ∙ ap (λ l. get_or l 0 0) stands

  size_there : number_at b (at + 1) 2 ≡ declared_size tail
  size_there =
      number_dropped b (at + 1) 2 ∙ ap (λ l. number_at l 0 2) (sym (drop-drop 1 at b) ∙ ap (drop 1) stands) ∙ sym (number_dropped tail 1 2)

  bytes_there : drop (at + header_size) b ≡ drop header_size tail
  bytes_there = sym (drop-drop header_size at b) ∙ ap (drop header_size) stands

  field_there : header_size + declared_size tail ≤ length tail → header_at b at (length b) ≡ some_field (get_or b at 0) (at + header_size) (at + header_size + declared_size tail)
  field_there l = header_whole b at (length b) (omega (arith, tail_length, size_there)) ∙ rw size_there

  -- another byte
  other : 0 < length tail → (get_or tail 0 0 ≡ mark_tag → ⊥) → mark_field_at b rows at ≡ Err refusal.BytesLeftOver
  unfolding mark_field_at
  other l n = let k = tail_length in rw (ne_eqb at (length b) (λ e. omega arith), ne_eqb (get_or b at 0) mark_tag (λ e. n (sym tag_there ∙ e)))

  module _ (tag : get_or tail 0 0 ≡ mark_tag) (some : 0 < length tail) where
    tagged : mark_field_at b rows at ≡ mark_field_of b rows (header_at b at (length b))
    unfolding mark_field_at
    tagged = let k = tail_length in rw (ne_eqb at (length b) (λ e. omega arith), eq-eqb (get_or b at 0) mark_tag (tag_there ∙ tag))

    cut : length tail < header_size + declared_size tail → mark_field_at b rows at ≡ Err refusal.FieldCut
    unfolding mark_field_of
    cut l = tagged ∙ rw (header_cut b at (length b) (omega (arith, tail_length, size_there)))

    module _ (l : header_size + declared_size tail ≤ length tail) where
      size_is : length (declared_payload tail) ≡ declared_size tail
      size_is = length-take-le (declared_size tail) (drop header_size tail) (rw length-drop (omega arith))

      whole : mark_field_at b rows at
          ≡ cond (eqb (declared_size tail) (bytes_for rows) && not (stray_bit (declared_payload tail) rows)) (cond (eqb (at + header_size + declared_size tail) (length b)) (Ok (Some (at + header_size))) (Err refusal.BytesLeftOver)) (Err refusal.BadMark)
      unfolding mark_field_of
      whole = let z : at + header_size + declared_size tail - (at + header_size) ≡ declared_size tail = omega arith in tagged ∙ rw (field_there l, z, bytes_there)

      bad : Bytes tail → (FormedBits rows (declared_payload tail) → ⊥) → mark_field_at b rows at ≡ Err refusal.BadMark
      bad bytes unformed = whole ∙ go (eqb (declared_size tail) (bytes_for rows)) refl (stray_bit (declared_payload tail) rows) refl
        where
          go : (x : Bool) → eqb (declared_size tail) (bytes_for rows) ≡ x → (y : Bool) → stray_bit (declared_payload tail) rows ≡ y
              → cond (x && not y) (cond (eqb (at + header_size + declared_size tail) (length b)) (Ok (Some (at + header_size))) (Err refusal.BytesLeftOver)) (Err refusal.BadMark) ≡ Err refusal.BadMark
          go false e y f = refl
          go true e true f = refl
          go true e false f =
              let size : length (declared_payload tail) ≡ bytes_for rows = size_is ∙ eqb-true _ _ e in
              absurd (unformed (record {
                size = size;
                bytes = bytes_take (drop header_size tail) (declared_size tail) (bytes_drop tail header_size bytes);
                unused = stray_unused (declared_payload tail) rows size f;
              }))

      more : header_size + declared_size tail < length tail → FormedBits rows (declared_payload tail) → mark_field_at b rows at ≡ Err refusal.BytesLeftOver
      more m formed =
          let n = tail_length in
          whole ∙ rw (eq-eqb (declared_size tail) (bytes_for rows) (sym size_is ∙ formed.size), unused_stray (declared_payload tail) rows formed, ne_eqb (at + header_size + declared_size tail) (length b) (λ e. omega arith))

      mark_there : header_size + declared_size tail ≡ length tail → FormedBits rows (declared_payload tail) → mark_of b (mark_field_at b rows at) ≡ accepted (marked (declared_payload tail))
      mark_there m formed =
          let n = tail_length in
          let all : take (declared_size tail) (drop header_size tail) ≡ drop header_size tail = take_all (declared_size tail) (drop header_size tail) (rw length-drop (omega arith)) in
          rw (whole, eq-eqb (declared_size tail) (bytes_for rows) (sym size_is ∙ formed.size), unused_stray (declared_payload tail) rows formed, eq-eqb (at + header_size + declared_size tail) (length b) (omega arith))
          (ap (λ (m : List ℕ). accepted (marked m)) (bytes_there ∙ sym all))

nonempty : (tail : List ℕ) → get_or tail 0 0 ≡ mark_tag → 0 < length tail
nonempty [] tag = absurd (omega arith)
nonempty (x ∷ tail) tag = omega arith

-- the whole catalogue: the columns of one without a mark, then other bytes
module _ (c : Catalogue) (formed : Formed c) (plain : c.mark ≡ unmarked) (tail : List ℕ) where
  first : List ℕ
  first = field_of first_tag (encode_counts c.rows (length c.columns))

  written : encode_catalogue c ++ tail ≡ first ++ (encode_columns c.columns ++ tail)
  unfolding first encode_catalogue
  written = rw (plain, append-nil) (append_assoc (field_of first_tag (encode_counts c.rows (length c.columns))) (encode_columns c.columns) tail)

  -- what is found there is found of the whole
  decode_after : (f : Decoded Mark) → ((b : List ℕ) (at : ℕ) → drop at b ≡ tail → at ≤ length b → mark_of b (mark_field_at b c.rows at) ≡ f)
      → decode_catalogue (encode_catalogue c ++ tail) ≡ mapped (with_mark c) f
  unfolding first
  decode_after f found =
      let b : List ℕ = encode_catalogue c ++ tail in
      decode_columns c formed b tail written ∙ rw (found b (columns_end c) (after_stands c formed b tail written) (after_inside c formed b tail written))

  pub after_other : 0 < length tail → (get_or tail 0 0 ≡ mark_tag → ⊥) → decode_catalogue (encode_catalogue c ++ tail) ≡ refused bytes_left_over
  after_other some n = decode_after (refused bytes_left_over) (λ b at h l. ap (mark_of b) (other b c.rows at tail h l some n))

  module _ (tag : get_or tail 0 0 ≡ mark_tag) where
    some : 0 < length tail
    some = nonempty tail tag

    pub after_cut : length tail < header_size + declared_size tail → decode_catalogue (encode_catalogue c ++ tail) ≡ refused field_cut
    after_cut k = decode_after (refused field_cut) (λ b at h l. ap (mark_of b) (cut b c.rows at tail h l tag some k))

    pub after_bad : header_size + declared_size tail ≤ length tail → Bytes tail → (FormedBits c.rows (declared_payload tail) → ⊥) → decode_catalogue (encode_catalogue c ++ tail) ≡ refused bad_mark
    after_bad k bytes n = decode_after (refused bad_mark) (λ b at h l. ap (mark_of b) (bad b c.rows at tail h l tag some k bytes n))

    pub after_more : header_size + declared_size tail < length tail → FormedBits c.rows (declared_payload tail) → decode_catalogue (encode_catalogue c ++ tail) ≡ refused bytes_left_over
    after_more k f = decode_after (refused bytes_left_over) (λ b at h l. ap (mark_of b) (more b c.rows at tail h l tag some (omega arith) k f))

    pub after_mark : header_size + declared_size tail ≡ length tail → FormedBits c.rows (declared_payload tail) → decode_catalogue (encode_catalogue c ++ tail) ≡ accepted (with_mark c (marked (declared_payload tail)))
    after_mark k f = decode_after (accepted (marked (declared_payload tail))) (λ b at h l. mark_there b c.rows at tail h l tag some (omega arith) k f)
