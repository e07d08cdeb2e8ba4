-- A quoted text is read exactly where its spelling stands: every list of bytes, and each of them in one way only.
use Prim.Native.Nat.{ℕ, suc, ◌+◌, ◌-◌, ◌*◌, ◌/◌, ◌%◌, ◌≤◌, ◌<◌}
use native.Mathlib.Omega.{arith}
use mathlib.Core.Path.{◌≡◌, refl, sym, ap, ◌∙◌}
use mathlib.Core.Bool.{Bool, true, false, ◌&&◌, ◌||◌, not, cond}
use mathlib.Core.List.{List, [], ◌∷◌, ◌++◌}
use lib.ListN.{length, length-append}
use lib.Dec.{ltb, leb, eqb}
use borrow.Author.Tests.{le-ltb, lt-ltb, le-leb, lt-leb, ne_eqb, eqb-true, leb-true, ltb-true, ltb-false, eqb-false}
use Rattle.bools.specs.Bools.{and_parts, or_fails, not_of_true}
use Rattle.fields.specs.Numbers.{Bytes}
use Rattle.fields.proofs.ByteLaws.{bytes_none, bytes_cons}
use Rattle.syntax.specs.Spelling.{quote, backslash, hex_digit, is_plain, spell_byte, spell_bytes}
use Rattle.syntax.specs.Parsed.{Parsed, wrong, parsed}
use Rattle.syntax.specs.Conditions.{is_digit, hex_value, is_hex, byte_before, quoted_ahead, escape_ahead, digit_ahead}
use Rattle.syntax.proofs.NumberLaws.{digit_parts, digit_yes}

-- THE BYTES

record Plain (x : ℕ) : Type 0 where
  small : x ≤ 126
  no_quote : x ≡ quote → ⊥
  no_backslash : x ≡ backslash → ⊥

plain_parts : (x : ℕ) → is_plain x ≡ true → Plain x
plain_parts x h =
    let p = and_parts (leb 32 x && leb x 126) (not (eqb x quote || eqb x backslash)) h in
    let q = and_parts (leb 32 x) (leb x 126) p.0 in
    let r = or_fails (eqb x quote) (eqb x backslash) (not_of_true _ p.1) in
    record { small = leb-true x 126 q.1; no_quote = eqb-false x quote r.0; no_backslash = eqb-false x backslash r.1 }

-- the two digits of a byte

pub value_digit : (d : ℕ) → d < 16 → hex_value (hex_digit d) ≡ d
value_digit d l = go (ltb d 10) refl
  where
    go : (b : Bool) → ltb d 10 ≡ b → hex_value (cond b (48 + d) (55 + d)) ≡ d
    go true e = let s : d < 10 = ltb-true d 10 e in rw (digit_yes d s) (omega arith)
    go false e =
        let s : 10 ≤ d = ltb-false d 10 e in
        rw (le-leb 48 (55 + d) (omega arith), lt-leb (55 + d) 57 (omega arith), le-leb 65 (55 + d) (omega arith), le-leb (55 + d) 70 (omega arith)) (omega arith)

pub digit_value : (x : ℕ) → is_hex x ≡ true → hex_digit (hex_value x) ≡ x
digit_value x h = go (is_digit x) refl (leb 65 x && leb x 70) refl h
  where
    go : (b : Bool) → is_digit x ≡ b → (c : Bool) → (leb 65 x && leb x 70) ≡ c → ltb (cond b (x - 48) (cond c (x - 55) 16)) 16 ≡ true
        → hex_digit (cond b (x - 48) (cond c (x - 55) 16)) ≡ x
    go true e c f g = let d = digit_parts x e in rw (lt-ltb (x - 48) 10 (omega arith)) (omega arith)
    go false e true f g =
        let p = and_parts (leb 65 x) (leb x 70) f in
        let l : 65 ≤ x = leb-true 65 x p.0 in
        let m : x ≤ 70 = leb-true x 70 p.1 in
        rw (le-ltb (x - 55) 10 (omega arith)) (omega arith)
    go false e false f g = let z : ◌≡◌ {A = ℕ} 0 1 = cc in absurd (omega arith)

-- THE SPELLING OF A BYTE BEFORE OTHERS

spell_plain_lem : (x : ℕ) (xs : List ℕ) → is_plain x ≡ true → spell_bytes (x ∷ xs) ≡ x ∷ spell_bytes xs
unfolding spell_bytes
spell_plain_lem x xs p = rw p

spell_other : (x : ℕ) (xs : List ℕ) → is_plain x ≡ false → spell_bytes (x ∷ xs) ≡ backslash ∷ hex_digit (x / 16) ∷ hex_digit (x % 16) ∷ spell_bytes xs
unfolding spell_bytes
spell_other x xs p = rw p

-- EVERY QUOTED TEXT IS READ

ahead_itself : (x : ℕ) (rest : List ℕ) → is_plain x ≡ true → quoted_ahead (x ∷ rest) ≡ byte_before x (quoted_ahead rest)
unfolding quoted_ahead
ahead_itself x rest p = let q = plain_parts x p in rw (p, ne_eqb x quote q.no_quote, ne_eqb x backslash q.no_backslash)

ahead_escape : (y d : ℕ) (rest : List ℕ) → hex_value y ≡ d → d < 16 → quoted_ahead (backslash ∷ y ∷ rest) ≡ digit_ahead d rest
unfolding quoted_ahead
ahead_escape y d rest e l = rw (e, lt-ltb d 16 l)

ahead_digit : (high y d x : ℕ) (rest : List ℕ) → hex_value y ≡ d → d < 16 → high * 16 + d ≡ x → is_plain x ≡ false → digit_ahead high (y ∷ rest) ≡ byte_before x (quoted_ahead rest)
unfolding quoted_ahead
ahead_digit high y d x rest e l s p = rw (e, lt-ltb d 16 l, s, p)

ahead_other : (x : ℕ) (rest : List ℕ) → x < 256 → is_plain x ≡ false → quoted_ahead (backslash ∷ hex_digit (x / 16) ∷ hex_digit (x % 16) ∷ rest) ≡ byte_before x (quoted_ahead rest)
ahead_other x rest l p =
    ahead_escape (hex_digit (x / 16)) (x / 16) (hex_digit (x % 16) ∷ rest) (value_digit (x / 16) (omega arith)) (omega arith)
    ∙ ahead_digit (x / 16) (hex_digit (x % 16)) (x % 16) x rest (value_digit (x % 16) (omega arith)) (omega arith) (omega arith) p

ahead_byte : (x : ℕ) (xs rest : List ℕ) → x < 256 → quoted_ahead (spell_bytes (x ∷ xs) ++ rest) ≡ byte_before x (quoted_ahead (spell_bytes xs ++ rest))
ahead_byte x xs rest l = go (is_plain x) refl
  where
    go : (b : Bool) → is_plain x ≡ b → quoted_ahead (spell_bytes (x ∷ xs) ++ rest) ≡ byte_before x (quoted_ahead (spell_bytes xs ++ rest))
    go true e = ap (λ (k : List ℕ). quoted_ahead (k ++ rest)) (spell_plain_lem x xs e) ∙ ahead_itself x (spell_bytes xs ++ rest) e
    go false e = ap (λ (k : List ℕ). quoted_ahead (k ++ rest)) (spell_other x xs e) ∙ ahead_other x (spell_bytes xs ++ rest) l e

pub quoted_reads : (o rest : List ℕ) → Bytes o → quoted_ahead (spell_bytes o ++ rest) ≡ parsed o rest
unfolding quoted_ahead spell_bytes
quoted_reads [] rest h = refl
quoted_reads (x ∷ xs) rest h = ahead_byte x xs rest (h 0) ∙ ap (byte_before x) (quoted_reads xs rest (λ i. h (suc i)))

-- WHAT IS READ IS A QUOTED TEXT

-- the rest of it, behind its front
abbrev QuotedStands : (text o rest : List ℕ) → Type 0
QuotedStands text o rest = Bytes o × (text ≡ spell_bytes o ++ rest)

before_parts : (x : ℕ) (p : Parsed (List ℕ)) (o rest : List ℕ) → byte_before x p ≡ parsed o rest → (xs : List ℕ) × (p ≡ parsed xs rest) × (x ∷ xs ≡ o)
before_parts x wrong o rest h = let z : ◌≡◌ {A = ℕ} 0 1 = cc in absurd (omega arith)
before_parts x (parsed xs r) o rest h = let a : (x ∷ xs) ≡ o = cc in let b : r ≡ rest = cc in (xs, rw b, a)

itself_sound : (x : ℕ) (t o rest : List ℕ) → ((xs : List ℕ) → quoted_ahead t ≡ parsed xs rest → QuotedStands t xs rest) → is_plain x ≡ true
    → byte_before x (quoted_ahead t) ≡ parsed o rest → QuotedStands (x ∷ t) o rest
itself_sound x t o rest more p h = go (before_parts x (quoted_ahead t) o rest h)
  where
    go : (xs : List ℕ) × (quoted_ahead t ≡ parsed xs rest) × (x ∷ xs ≡ o) → QuotedStands (x ∷ t) o rest
    go (xs, e, f) =
        let i = more xs e in
        let q = plain_parts x p in
        let s = q.small in
        rw (← f) (bytes_cons x xs (omega arith) i.0, ap (λ (k : List ℕ). x ∷ k) i.1 ∙ ap (λ (k : List ℕ). k ++ rest) (sym (spell_plain_lem x xs p)))

other_sound : (y z x : ℕ) (t o rest : List ℕ) → ((xs : List ℕ) → quoted_ahead t ≡ parsed xs rest → QuotedStands t xs rest) → is_hex y ≡ true → is_hex z ≡ true
    → hex_value y * 16 + hex_value z ≡ x → is_plain x ≡ false → byte_before x (quoted_ahead t) ≡ parsed o rest → QuotedStands (backslash ∷ y ∷ z ∷ t) o rest
other_sound y z x t o rest more hy hz s p h = go (before_parts x (quoted_ahead t) o rest h)
  where
    go : (xs : List ℕ) × (quoted_ahead t ≡ parsed xs rest) × (x ∷ xs ≡ o) → QuotedStands (backslash ∷ y ∷ z ∷ t) o rest
    go (xs, e, f) =
        let i = more xs e in
        let ly : hex_value y < 16 = ltb-true (hex_value y) 16 hy in
        let lz : hex_value z < 16 = ltb-true (hex_value z) 16 hz in
        let a : x / 16 ≡ hex_value y = omega arith in
        let b : x % 16 ≡ hex_value z = omega arith in
        let u : hex_digit (x / 16) ≡ y = ap hex_digit a ∙ digit_value y hy in
        let v : hex_digit (x % 16) ≡ z = ap hex_digit b ∙ digit_value z hz in
        rw (← f) (
          bytes_cons x xs (omega arith) i.0,
          ap (λ (k : List ℕ). backslash ∷ y ∷ z ∷ k) i.1
              ∙ ap (λ (k : ℕ). backslash ∷ k ∷ z ∷ (spell_bytes xs ++ rest)) (sym u)
              ∙ ap (λ (k : ℕ). backslash ∷ hex_digit (x / 16) ∷ k ∷ (spell_bytes xs ++ rest)) (sym v)
              ∙ ap (λ (k : List ℕ). k ++ rest) (sym (spell_other x xs p)),
        )

quoted_step : (x : ℕ) (t o rest : List ℕ) → ((xs : List ℕ) → quoted_ahead t ≡ parsed xs rest → QuotedStands t xs rest)
    → (escape_ahead t ≡ parsed o rest → QuotedStands (backslash ∷ t) o rest) → quoted_ahead (x ∷ t) ≡ parsed o rest → QuotedStands (x ∷ t) o rest
unfolding quoted_ahead spell_bytes
quoted_step x t o rest more escaped h = go (eqb x quote) refl (eqb x backslash) refl (is_plain x) refl h
  where
    go : (a : Bool) → eqb x quote ≡ a → (b : Bool) → eqb x backslash ≡ b → (c : Bool) → is_plain x ≡ c
        → cond a (parsed [] t) (cond b (escape_ahead t) (cond c (byte_before x (quoted_ahead t)) wrong)) ≡ parsed o rest → QuotedStands (x ∷ t) o rest
    go true e b f c p g =
        let y : ◌≡◌ {A = List ℕ} [] o = cc in
        let z : t ≡ rest = cc in
        rw (← y, ← z, eqb-true x quote e) (bytes_none, refl)
    go false e true f c p g = rw (eqb-true x backslash f) (escaped g)
    go false e false f true p g = itself_sound x t o rest more p g
    go false e false f false p g = let z : ◌≡◌ {A = ℕ} 0 1 = cc in absurd (omega arith)

escape_step : (y : ℕ) (t o rest : List ℕ) → (is_hex y ≡ true → digit_ahead (hex_value y) t ≡ parsed o rest → QuotedStands (backslash ∷ y ∷ t) o rest)
    → escape_ahead (y ∷ t) ≡ parsed o rest → QuotedStands (backslash ∷ y ∷ t) o rest
unfolding quoted_ahead
escape_step y t o rest more h = go (is_hex y) refl h
  where
    go : (b : Bool) → is_hex y ≡ b → cond b (digit_ahead (hex_value y) t) wrong ≡ parsed o rest → QuotedStands (backslash ∷ y ∷ t) o rest
    go true e g = more e g
    go false e g = let z : ◌≡◌ {A = ℕ} 0 1 = cc in absurd (omega arith)

digit_step : (y z : ℕ) (t o rest : List ℕ) → ((xs : List ℕ) → quoted_ahead t ≡ parsed xs rest → QuotedStands t xs rest) → is_hex y ≡ true
    → digit_ahead (hex_value y) (z ∷ t) ≡ parsed o rest → QuotedStands (backslash ∷ y ∷ z ∷ t) o rest
unfolding quoted_ahead
digit_step y z t o rest more hy h = go (is_hex z) refl (is_plain (hex_value y * 16 + hex_value z)) refl h
  where
    go : (b : Bool) → is_hex z ≡ b → (c : Bool) → is_plain (hex_value y * 16 + hex_value z) ≡ c
        → cond b (cond c wrong (byte_before (hex_value y * 16 + hex_value z) (quoted_ahead t))) wrong ≡ parsed o rest → QuotedStands (backslash ∷ y ∷ z ∷ t) o rest
    go true e false p g = other_sound y z (hex_value y * 16 + hex_value z) t o rest more hy e refl p g
    go true e true p g = let z : ◌≡◌ {A = ℕ} 0 1 = cc in absurd (omega arith)
    go false e c p g = let z : ◌≡◌ {A = ℕ} 0 1 = cc in absurd (omega arith)

mutual
  unfolding quoted_ahead

  pub quoted_sound : (text o rest : List ℕ) → quoted_ahead text ≡ parsed o rest → Bytes o × (text ≡ spell_bytes o ++ rest)
  quoted_sound [] o rest h = let z : ◌≡◌ {A = ℕ} 0 1 = cc in absurd (omega arith)
  quoted_sound (x ∷ t) o rest h = quoted_step x t o rest (λ xs e. quoted_sound t xs rest e) (λ e. escape_sound t o rest e) h

  escape_sound : (text o rest : List ℕ) → escape_ahead text ≡ parsed o rest → Bytes o × ((backslash ∷ text) ≡ spell_bytes o ++ rest)
  escape_sound [] o rest h = let z : ◌≡◌ {A = ℕ} 0 1 = cc in absurd (omega arith)
  escape_sound (y ∷ t) o rest h = escape_step y t o rest (λ e g. digit_sound y e t o rest g) h

  digit_sound : (y : ℕ) → is_hex y ≡ true → (text o rest : List ℕ) → digit_ahead (hex_value y) text ≡ parsed o rest
      → Bytes o × ((backslash ∷ y ∷ text) ≡ spell_bytes o ++ rest)
  digit_sound y hy [] o rest h = let z : ◌≡◌ {A = ℕ} 0 1 = cc in absurd (omega arith)
  digit_sound y hy (z ∷ t) o rest h = digit_step y z t o rest (λ xs e. quoted_sound t xs rest e) hy h

-- HOW LONG IT IS

byte_length : (b : Bool) (x y z : ℕ) → (1 ≤ length (cond b (x ∷ []) (backslash ∷ y ∷ z ∷ []))) × (length (cond b (x ∷ []) (backslash ∷ y ∷ z ∷ [])) ≤ 3)
byte_length true x y z = (omega arith, omega arith)
byte_length false x y z = (omega arith, omega arith)

-- a byte at least and three at most for each, and the quote
pub quoted_some : (o : List ℕ) → suc (length o) ≤ length (spell_bytes o)
unfolding spell_bytes
quoted_some [] = omega arith
quoted_some (x ∷ xs) = omega (arith, length-append (spell_byte x) (spell_bytes xs), (byte_length (is_plain x) x (hex_digit (x / 16)) (hex_digit (x % 16))).0, quoted_some xs)

pub quoted_few : (o : List ℕ) → length (spell_bytes o) ≤ suc (3 * length o)
unfolding spell_bytes
quoted_few [] = omega arith
quoted_few (x ∷ xs) = omega (arith, length-append (spell_byte x) (spell_bytes xs), (byte_length (is_plain x) x (hex_digit (x / 16)) (hex_digit (x % 16))).1, quoted_few xs)
