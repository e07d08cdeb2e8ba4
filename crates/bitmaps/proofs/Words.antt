-- A table with the eight bytes of a word put in their place is the table with the word's bits.
use Rattle.std.proofs.Common.{◌≡◌, ℕ, ◌+◌, ◌*◌, ◌/◌, ◌%◌, ◌^◌, ◌≤◌, ◌<◌, ◌⊎◌, inl, inr, true, false, ltb, refl, ◌-◌, zero, suc, List, ◌++◌, length, take, drop, get_or, eqb, sym, ap, ◌∙◌, arith, length-append, length-drop, get_or-take, get_or-drop, mod-lt}
use Rattle.std.proofs.Math.ListN.{get_or-append, get_or-eq_default}
use Rattle.std.proofs.Math.Nat.{div-one}
use Rattle.std.proofs.Math.Seq.{length-take-le}
use Rattle.std.proofs.lemmas.List.{get_or-append_right}
use Rattle.std.specs.Int.{w64, to_le_bytes, bytes_low_first}
use borrow.Rule.Slice.PartMut.{put_mid}
use Rattle.bools.specs.Bools.{which, ltb_lt, ltb_le}
use Rattle.fields.specs.Numbers.{Bytes}
use Rattle.fields.proofs.ByteLaws.{bytes_take, bytes_drop, bytes_append}
use Rattle.sets.specs.Set.{has}
use Rattle.bitmaps.specs.Bit.{bit}
use Rattle.bitmaps.proofs.BitLaws.{bit_at}
use Rattle.bitmaps.specs.Word.{block_rows, word_size, WordPut}
use Rattle.bitmaps.proofs.WordLaws.{byte_has}

-- byte i of those from byte j on
low_byte : (x j n i : ℕ) → i < n → get_or (bytes_low_first j n x) i 0 ≡ x / 256 ^ (j + i) % 256
low_byte x j zero i l = absurd (omega arith)
low_byte x zero (suc n) zero l = ap (λ (y : ℕ). y % 256) (sym (div-one x))
low_byte x (suc j) (suc n) zero l = let z : suc j + 0 ≡ suc j = omega arith in rw z
low_byte x j (suc n) (suc i) l = let z : j + suc i ≡ suc j + i = omega arith in rw z (low_byte x (suc j) n i (omega arith))

module _ (t : List ℕ) (at x k : ℕ) (eight : k ≡ word_size) (fits : at + word_size ≤ length t) where
  abbrev front : List ℕ
  front = take at t

  abbrev word : List ℕ
  word = to_le_bytes w64 x

  abbrev behind : List ℕ
  behind = drop k (drop at t)

  abbrev stored : List ℕ
  stored = put_mid at k t word

  front_size : length front ≡ at
  front_size = length-take-le at t (omega arith)

  word_bytes : Bytes word
  word_bytes i = go (which (ltb i 8))
    where
      go : (ltb i 8 ≡ true) ⊎ (ltb i 8 ≡ false) → get_or word i 0 < 256
      go (inl y) = rw (low_byte x 0 8 i (ltb_lt i 8 y)) (mod-lt (x / 256 ^ (0 + i)) (omega arith))
      go (inr y) = rw (get_or-eq_default word 0 (ltb_le i 8 y)) (omega arith)

  stored_size : length stored ≡ length t
  stored_size = omega (arith, length-append front (word ++ behind), length-append word behind, length-drop k (drop at t), length-drop at t, front_size)

  stored_here : (i : ℕ) → i < 8 → get_or stored (at + i) 0 ≡ x / 256 ^ i % 256
  stored_here i l =
      let z : at + i - at ≡ i = omega arith in
      let y : 0 + i ≡ i = omega arith in
      get_or-append_right front (word ++ behind) at (at + i) 0 front_size (omega arith)
      ∙ rw z (get_or-append word behind 0 i l) ∙ low_byte x 0 8 i l ∙ ap (λ (j : ℕ). x / 256 ^ j % 256) y

  stored_elsewhere : (i : ℕ) → (i < at) ⊎ (at + 8 ≤ i) → get_or stored i 0 ≡ get_or t i 0
  stored_elsewhere i (inl l) = get_or-append front (word ++ behind) 0 i (omega (arith, front_size)) ∙ get_or-take at t i 0 l
  stored_elsewhere i (inr l) =
      let z : at + (k + (i - at - 8)) ≡ i = omega arith in
      get_or-append_right front (word ++ behind) at i 0 front_size (omega arith)
      ∙ get_or-append_right word behind 8 (i - at) 0 refl (omega arith)
      ∙ get_or-drop k (drop at t) (i - at - 8) 0 ∙ get_or-drop at t (k + (i - at - 8)) 0 ∙ ap (λ (j : ℕ). get_or t j 0) z

  here : (d : ℕ) → d < block_rows → bit stored (at * 8 + d) ≡ has x d
  here d h =
      let p : at * 8 + d ≡ (at + d / 8) * 8 + d % 8 = omega arith in
      ap (bit stored) p ∙ bit_at stored (at + d / 8) (d % 8) (mod-lt d (omega arith))
      ∙ ap (λ (y : ℕ). has y (d % 8)) (stored_here (d / 8) (omega arith)) ∙ byte_has x d

  elsewhere : (j : ℕ) → (j < at * 8) ⊎ (at * 8 + block_rows ≤ j) → bit stored j ≡ bit t j
  unfolding bit
  elsewhere j o = ap (λ (y : ℕ). eqb (y / 2 ^ (j % 8) % 2) 1) (stored_elsewhere (j / 8) (side o))
    where
      side : (j < at * 8) ⊎ (at * 8 + block_rows ≤ j) → (j / 8 < at) ⊎ (at + 8 ≤ j / 8)
      side (inl l) = inl (omega arith)
      side (inr l) = inr (omega arith)

  pub word_put : WordPut t at x stored
  word_put = record {
    size = stored_size;
    bytes = λ b. bytes_append front (word ++ behind) (bytes_take t at b) (bytes_append word behind word_bytes (bytes_drop (drop at t) k (bytes_drop t at b)));
    here = here;
    elsewhere = elsewhere;
  }
