-- A field in the bytes, both ways: a header that is read stands there as it is written, and a field that is written is read.
use Prim.Native.Nat.{ℕ, zero, suc, ◌+◌, ◌-◌, ◌^◌, ◌≤◌, ◌<◌}
use native.Mathlib.Nat.{zero-add}
use native.Mathlib.Omega.{arith}
use mathlib.Core.Path.{◌≡◌, refl, sym, ap, ◌∙◌}
use mathlib.Core.Bool.{Bool, true, false, cond}
use mathlib.Core.List.{List, [], ◌∷◌, ◌++◌, append_assoc}
use lib.ListN.{length, get_or, drop, length-append, length-drop, get_or-append}
use lib.Seq.{drop-cons, drop-drop, drop-append_seam, get_or-drop}
use lib.Dec.{ltb}
use borrow.Author.Tests.{ltb-false, lt-ltb, le-ltb}
use Rattle.fields.specs.declared.header.Field.{Field}
use Rattle.std.specs.Prelude.{Option, None, Some}
use Rattle.fields.specs.Numbers.{number_at, bytes_of, Bytes}
use Rattle.fields.specs.Header.{header_at, some_field, header_size, field_of}
use Rattle.fields.proofs.Laws.{length_bytes, number_of_bytes}
use Rattle.fields.proofs.Written.{number_written}

-- a field as it stands in the bytes: its tag, its length and, inside the enclosing end, its payload
pub record FieldAt (b : List ℕ) (at end tag start stop : ℕ) : Type 0 where
  pub tagged : get_or b at 0 ≡ tag
  pub begins : start ≡ at + header_size
  pub sized : stop ≡ start + number_at b (at + 1) 2
  pub within : stop ≤ end

-- what a header tells of the bytes
abbrev pub HeaderIs : (b : List ℕ) → (at end : ℕ) → Option Field → Type 0
HeaderIs b at end None = Unit {0}
HeaderIs b at end (Some f) = FieldAt b at end f.tag f.start f.end

pub header_is : (b : List ℕ) (at end : ℕ) → HeaderIs b at end (header_at b at end)
unfolding header_at
header_is b at end = short (ltb (end - at) header_size) refl
  where
    long : (x : Bool) → ltb (end - (at + header_size)) (number_at b (at + 1) 2) ≡ x → header_size ≤ end - at
        → HeaderIs b at end (cond x None (some_field (get_or b at 0) (at + header_size) (at + header_size + number_at b (at + 1) 2)))
    long true e l = tt
    long false e l =
        let k : number_at b (at + 1) 2 ≤ end - (at + header_size) = ltb-false _ _ e in
        record { tagged = refl; begins = refl; sized = refl; within = omega arith }

    short : (x : Bool) → ltb (end - at) header_size ≡ x
        → HeaderIs b at end (cond x None (cond (ltb (end - (at + header_size)) (number_at b (at + 1) 2)) None (some_field (get_or b at 0) (at + header_size) (at + header_size + number_at b (at + 1) 2))))
    short true e = tt
    short false e = long (ltb (end - (at + header_size)) (number_at b (at + 1) 2)) refl (ltb-false _ _ e)

-- a field is read where there is room for it before the end, and is else cut
module _ (b : List ℕ) (at end : ℕ) where
  pub header_whole : at + header_size + number_at b (at + 1) 2 ≤ end → header_at b at end ≡ some_field (get_or b at 0) (at + header_size) (at + header_size + number_at b (at + 1) 2)
  unfolding header_at
  header_whole l = rw (le-ltb (end - at) header_size (omega arith), le-ltb (end - (at + header_size)) (number_at b (at + 1) 2) (omega arith))

  pub header_cut : end < at + header_size + number_at b (at + 1) 2 → header_at b at end ≡ None
  unfolding header_at
  header_cut l = go (ltb (end - at) header_size) refl
    where
      go : (x : Bool) → ltb (end - at) header_size ≡ x
          → cond x None (cond (ltb (end - (at + header_size)) (number_at b (at + 1) 2)) None (some_field (get_or b at 0) (at + header_size) (at + header_size + number_at b (at + 1) 2))) ≡ None
      go true e = refl
      go false e =
          let k : header_size ≤ end - at = ltb-false _ _ e in
          rw (lt-ltb (end - (at + header_size)) (number_at b (at + 1) 2) (omega arith))

-- what is read is written: the bytes from a field on are the field, then the bytes after it
module _ (b : List ℕ) (bytes : Bytes b) (at end tag start stop : ℕ) (stands : FieldAt b at end tag start stop) (inside : end ≤ length b) where
  header_written : drop at b ≡ tag ∷ (bytes_of 2 (stop - start) ++ drop start b)
  header_written =
      let g = stands.begins in
      let s = stands.sized in
      let w = stands.within in
      let y : suc at ≡ at + 1 = omega arith in
      let z : at + 1 + 2 ≡ start = omega arith in
      let n : number_at b (at + 1) 2 ≡ stop - start = omega arith in
      drop-cons b at 0 (omega arith) ∙ rw (stands.tagged, y, number_written b bytes (at + 1) 2 (omega arith), n, z)

  pub field_written : (payload : List ℕ) → drop start b ≡ payload ++ drop stop b → drop at b ≡ field_of tag payload ++ drop stop b
  unfolding field_of
  field_written payload h =
      let s = stands.sized in
      let w = stands.within in
      let a : length b - start ≡ length payload + (length b - stop) = simp (length-drop, length-append) at (ap length h) in
      let n : stop - start ≡ length payload = omega arith in
      header_written ∙ rw (n, h) (ap (λ l. tag ∷ l) (sym (append_assoc (bytes_of 2 (length payload)) payload (drop stop b))))

-- what is written is read: places from the bytes there on

pub drop_past : (b : List ℕ) (at : ℕ) (xs ys : List ℕ) → drop at b ≡ xs ++ ys → drop (at + length xs) b ≡ ys
drop_past b at xs ys h = sym (drop-drop (length xs) at b) ∙ ap (drop (length xs)) h ∙ drop-append_seam xs ys

pub first_dropped : (b : List ℕ) (at : ℕ) → get_or b at 0 ≡ get_or (drop at b) 0 0
first_dropped b at = let z : at ≡ at + 0 = omega arith in ap (λ i. get_or b i 0) z ∙ sym (get_or-drop at b 0 0)

pub first_read : (b : List ℕ) (at x : ℕ) (xs : List ℕ) → drop at b ≡ x ∷ xs → get_or b at 0 ≡ x
first_read b at x xs h = first_dropped b at ∙ ap (λ l. get_or l 0 0) h

pub number_dropped : (b : List ℕ) (at w : ℕ) → number_at b at w ≡ number_at (drop at b) 0 w
unfolding number_at
number_dropped b at zero = refl
number_dropped b at (suc k) = rw (number_dropped b at k, zero-add k, get_or-drop at b k 0)

pub number_front : (xs ys : List ℕ) (at w : ℕ) → at + w ≤ length xs → number_at (xs ++ ys) at w ≡ number_at xs at w
unfolding number_at
number_front xs ys at zero l = refl
number_front xs ys at (suc k) l = rw (number_front xs ys at k (omega arith), get_or-append xs ys 0 (at + k) (omega arith))

pub number_read : (b : List ℕ) (at w x : ℕ) (rest : List ℕ) → x < 256 ^ w → drop at b ≡ bytes_of w x ++ rest → number_at b at w ≡ x
number_read b at w x rest l h =
    number_dropped b at w ∙ ap (λ s. number_at s 0 w) h ∙ number_front (bytes_of w x) rest 0 w (omega (arith, length_bytes w x)) ∙ number_of_bytes w x l

pub field_length : (tag : ℕ) (payload : List ℕ) → length (field_of tag payload) ≡ header_size + length payload
unfolding field_of bytes_of
field_length tag payload = omega arith

module _ (b : List ℕ) (at tag : ℕ) (payload rest : List ℕ) (h : drop at b ≡ field_of tag payload ++ rest) where
  parts : drop at b ≡ (tag ∷ []) ++ (bytes_of 2 (length payload) ++ (payload ++ rest))
  unfolding field_of
  parts = h ∙ ap (λ s. tag ∷ s) (append_assoc (bytes_of 2 (length payload)) payload rest)

  after_tag : drop (at + 1) b ≡ bytes_of 2 (length payload) ++ (payload ++ rest)
  after_tag = drop_past b at (tag ∷ []) (bytes_of 2 (length payload) ++ (payload ++ rest)) parts

  pub payload_read : drop (at + header_size) b ≡ payload ++ rest
  payload_read =
      let z : at + 1 + length (bytes_of 2 (length payload)) ≡ at + header_size = omega (arith, length_bytes 2 (length payload)) in
      rw z at (drop_past b (at + 1) (bytes_of 2 (length payload)) (payload ++ rest) after_tag)

  pub after_read : drop (at + header_size + length payload) b ≡ rest
  after_read = drop_past b (at + header_size) payload rest payload_read

  pub field_inside : at + header_size + length payload ≤ length b
  field_inside =
      let n : length b - at ≡ length (field_of tag payload) + length rest = simp (length-drop, length-append) at (ap length h) in
      omega (arith, field_length tag payload)

  -- "a two-byte length": of a payload under 65,536 bytes
  pub header_read : (end : ℕ) → length payload < 65536 → at + header_size + length payload ≤ end
      → header_at b at end ≡ some_field tag (at + header_size) (at + header_size + length payload)
  header_read end l i =
      let t : get_or b at 0 ≡ tag = first_read b at tag (bytes_of 2 (length payload) ++ (payload ++ rest)) parts in
      let n : number_at b (at + 1) 2 ≡ length payload = number_read b (at + 1) 2 (length payload) (payload ++ rest) l after_tag in
      header_whole b at end (omega arith) ∙ rw (n, t)
