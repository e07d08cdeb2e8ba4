-- A head put together byte by byte: every slot that starts as the operand asks passes.
use Prim.Native.Nat.{ℕ, zero, suc, ◌+◌, ◌-◌, ◌*◌, ◌%◌, ◌^◌, ◌≤◌, ◌<◌}
use native.Mathlib.Nat.{add-zero, pow-suc}
use native.Mathlib.Omega.{arith}
use mathlib.Core.Path.{◌≡◌, refl, sym, ap, ap₂, ◌∙◌}
use mathlib.Core.Bool.{Bool, true, false, ◌&&◌, ◌||◌, xor}
use mathlib.Core.Logic.{◌⊎◌, inl, inr}
use mathlib.Core.List.{List}
use lib.ListN.{length, get_or}
use lib.Dec.{eqb, ltb}
use lib.Pow.{pow_pos}
use lib.Bits.{bit_and, bit_or, bit_xor, or_zero_r, xor_zero_r, and_le_r, xor_lt, and_mask, or_block}
use borrow.Author.Tests.{eq-eqb}
use Rattle.bools.specs.Bools.{which, eqb_eq, ltb_le}
use Rattle.words.specs.Words.{word_at}
use Rattle.slots.specs.Slots.{text_limit}
use Rattle.sets.specs.Set.{has, below_set}
use Rattle.sets.specs.SetLaws.{has_and, has_or, has_xor, has_none, has_below, has_high, below_lt, same_set}
use Rattle.predicate.specs.Kinds.{equals_kind}
use Rattle.predicate.specs.Meaning.{fold}
use Rattle.heads.specs.declared.byte_test.ByteTest.{ByteTest}
use Rattle.heads.specs.ByteTest.{any_byte}
use Rattle.heads.specs.Head.{head_size, Starts, TestFor, HeadFor, BlankHeadIs}
use Rattle.heads.proofs.ByteTests.{MayFold, any_passes}

-- what byte j may be

module _ (kind : ℕ) (o : List ℕ) where
  pub test_any : (j : ℕ) → TestFor kind o j any_byte
  test_any j = record { mask_small = omega arith; value_small = omega arith; passes = λ b p S. any_passes (get_or b (p + j) 0) (S.bytes (p + j)) }

  pub test_size : {j size : ℕ} → j ≡ 0 → kind ≡ equals_kind → size ≡ length o → length o ≤ text_limit → TestFor kind o j (record { mask = 0; value = size })
  test_size {j} {size} z e n l = record {
    mask_small = omega arith;
    value_small = omega arith;
    passes = λ b p S.
        let q : p + j ≡ p = omega arith in
        eq-eqb _ _ (or_zero_r (get_or b (p + j) 0) ∙ ap (λ (i : ℕ). get_or b i 0) q ∙ S.sized e ∙ sym n);
  }

  pub test_byte : {j c : ℕ} {k : ByteTest} → 0 < j → j ≤ length o → c ≡ fold (get_or o (j - 1) 0) → MayFold c k → TestFor kind o j k
  test_byte {j} {c} {k} some inside c-is K = record {
    mask_small = K.mask_small;
    value_small = K.value_small;
    passes = λ b p S.
        let q : p + 1 + (j - 1) ≡ p + j = omega arith in
        let f : fold (get_or b (p + j) 0) ≡ c = ap (λ (i : ℕ). fold (get_or b i 0)) (sym q) ∙ S.alike (j - 1) (omega arith) ∙ sym c-is in
        K.passes (get_or b (p + j) 0) (S.bytes (p + j)) f;
  }

-- x and x with the bits of m set differ in no other bit
asked : (n x m : ℕ) → m < 2 ^ n → bit_and (bit_xor x (bit_or x m)) (bit_xor (below_set n) m) ≡ 0
unfolding xor
asked n x m small =
    same_set n _ 0 (omega (arith, and_le_r (bit_xor x (bit_or x m)) (bit_xor (below_set n) m), xor_lt n (below_set n) m (below_lt n) small)) (pow_pos n)
    (λ d. has_and _ _ d ∙ ap₂ (λ (p q : Bool). p && q) (has_xor x _ d ∙ ap (xor (has x d)) (has_or x m d)) (has_xor (below_set n) m d) ∙ none d (which (ltb d n)) ∙ sym (has_none d))
  where
    in_mask : (p q : Bool) → (xor p (p || q) && xor true q) ≡ false
    in_mask true true = refl
    in_mask true false = refl
    in_mask false true = refl
    in_mask false false = refl

    beyond : (p t : Bool) → (xor p (p || false) && xor t false) ≡ false
    beyond true t = refl
    beyond false t = refl

    none : (d : ℕ) → (ltb d n ≡ true) ⊎ (ltb d n ≡ false) → (xor (has x d) (has x d || has m d) && xor (has (below_set n) d) (has m d)) ≡ false
    none d (inl e) = rw (has_below n d ∙ e) (in_mask (has x d) (has m d))
    none d (inr e) = rw (has_high n m d small (ltb_le d n e)) (beyond (has x d) (has (below_set n) d))

-- the bytes from j on are put together; the bits of `left_open` are left open
pub record Heading (kind : ℕ) (o : List ℕ) (j left_open value : ℕ) : Type 0 where
  pub inside : j ≤ head_size
  pub open_small : left_open < 256 ^ (head_size - j)
  pub value_small : value < 256 ^ (head_size - j)
  pub passes : (b : List ℕ) (p : ℕ) → Starts kind o b p → bit_or (word_at b (p + j) (head_size - j)) left_open ≡ value

pub heading_none : (kind : ℕ) (o : List ℕ) → Heading kind o head_size 0 0
unfolding word_at
heading_none kind o = record { inside = omega arith; open_small = omega arith; value_small = omega arith; passes = λ b p S. refl }

-- three bytes at most are no more than 2^24
short : (n : ℕ) → n < head_size → 256 ^ n ≤ 16777216
short zero h = omega arith
short (suc zero) h = omega arith
short (suc (suc zero)) h = omega arith
short (suc (suc (suc zero))) h = omega arith
short (suc (suc (suc (suc n)))) h = absurd (omega arith)

module _ {kind : ℕ} {o : List ℕ} {j left_open value : ℕ} (H : Heading kind o j left_open value) where
  module _ (more : 0 < j) where
    pub heading_small : (left_open < 16777216) × (value < 16777216)
    heading_small =
        let l = short (head_size - j) (omega arith) in
        let m = H.open_small in
        let v = H.value_small in
        (omega arith, omega arith)

    pub heading_next : {k : ByteTest} {m v : ℕ} → TestFor kind o (j - 1) k → m ≡ k.mask → v ≡ k.value → Heading kind o (j - 1) (256 * left_open + m) (256 * value + v)
    unfolding word_at
    heading_next {k} {m} {v} K me ve = record {
      inside = let l = H.inside in omega arith;
      open_small = below left_open m H.open_small (rw me K.mask_small);
      value_small = below value v H.value_small (rw ve K.value_small);
      passes = λ b p S. step b p S;
    }
      where
        n : ℕ
        n = head_size - j

        one_more : head_size - (j - 1) ≡ suc n
        one_more = let l = H.inside in omega arith

        below : (x y : ℕ) → x < 256 ^ n → y < 256 → 256 * x + y < 256 ^ (head_size - (j - 1))
        below x y h l = let e : 256 ^ suc n ≡ 256 ^ n * 256 = pow-suc 256 n in rw one_more (omega arith)

        step : (b : List ℕ) (p : ℕ) → Starts kind o b p → bit_or (word_at b (p + (j - 1)) (head_size - (j - 1))) (256 * left_open + m) ≡ 256 * value + v
        step b p S =
            let x = get_or b (p + (j - 1)) 0 in
            let z : p + (j - 1) + 1 ≡ p + j = omega arith in
            let w : x + 256 * word_at b (p + j) n ≡ word_at b (p + j) n * 2 ^ 8 + x = omega arith in
            let c : bit_or x k.mask ≡ k.value = eqb_eq (bit_or x k.mask) k.value (K.passes b p S) in
            let e : 256 * left_open + m ≡ left_open * 2 ^ 8 + k.mask = omega (arith, me) in
            let f : value * 2 ^ 8 + k.value ≡ 256 * value + v = omega (arith, ve) in
            rw (one_more, z, w, e) (or_block 8 (word_at b (p + j) n) left_open x k.mask (S.bytes (p + (j - 1))) K.mask_small ∙ rw (H.passes b p S, c) f)

  pub heading_end : j ≤ 0 → HeadFor kind o (record { asked = bit_xor 4294967295 left_open; value = value })
  heading_end h b p S =
      let e : j ≡ 0 = omega arith in
      let small : left_open < 2 ^ 32 = rw e at H.open_small in
      let whole : bit_or (word_at b p head_size) left_open ≡ value = rw (e, add-zero p) at (H.passes b p S) in
      eq-eqb _ _ (ap (λ (v : ℕ). bit_and (bit_xor (word_at b p head_size) v) (bit_xor 4294967295 left_open)) (sym whole) ∙ asked 32 (word_at b p head_size) left_open small)

-- where the first byte alone is asked for, a head shows its length
pub blank_head : BlankHeadIs (record { asked = 255; value = 0 })
unfolding word_at
blank_head b p h = ap (λ (x : ℕ). eqb x 0) (ap (λ (x : ℕ). bit_and x 255) (xor_zero_r (word_at b p head_size)) ∙ and_mask (word_at b p head_size) 8 ∙ length_byte)
  where
    length_byte : word_at b p head_size % 2 ^ 8 ≡ get_or b p 0
    length_byte = omega (arith, h p)
