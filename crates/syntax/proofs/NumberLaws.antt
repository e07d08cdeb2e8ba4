-- A number is read exactly where its digits stand: every number up to a limit, and nothing that is not its digits.
use Prim.Native.Nat.{ℕ, zero, suc, ◌+◌, ◌-◌, ◌*◌, ◌/◌, ◌%◌, ◌≤◌, ◌<◌}
use native.Mathlib.Omega.{arith}
use mathlib.Core.Path.{◌≡◌, refl, sym, ap, ◌∙◌}
use mathlib.Core.Bool.{Bool, true, false, cond}
use mathlib.Core.List.{List, [], ◌∷◌, ◌++◌, append_assoc}
use lib.Dec.{eqb, leb}
use borrow.Author.Tests.{eqb-true, le-leb, leb-true, leb-false, ne_eqb, eqb-false}
use Rattle.bools.specs.Bools.{and_parts}
use Rattle.fields.specs.Decimal.{digits_of, decimal}
use Rattle.fields.proofs.DecimalLaws.{digits_more, digits_none, decimal_zero, decimal_more}
use Rattle.syntax.specs.Parsed.{wrong, parsed}
use Rattle.syntax.specs.Conditions.{is_digit, more_digits, number_ahead}

-- what may stand behind a number: nothing, or no digit
abbrev pub NoDigit : List ℕ → Type 0
NoDigit [] = Unit {0}
NoDigit (x ∷ rest) = is_digit x ≡ false

pub digit_parts : (x : ℕ) → is_digit x ≡ true → (48 ≤ x) × (x ≤ 57)
digit_parts x h = let p = and_parts (leb 48 x) (leb x 57) h in (leb-true 48 x p.0, leb-true x 57 p.1)

pub digit_yes : (d : ℕ) → d < 10 → is_digit (48 + d) ≡ true
digit_yes d l = rw (le-leb 48 (48 + d) (omega arith), le-leb (48 + d) 57 (omega arith))

-- a digit more behind the digits of a number
digit_behind : (n d : ℕ) → d < 10 → 0 < n + d → digits_of (n * 10 + d) ≡ digits_of n ++ ((48 + d) ∷ [])
digit_behind n d l p =
    let q : (n * 10 + d) / 10 ≡ n = omega arith in
    let r : (n * 10 + d) % 10 ≡ d = omega arith in
    digits_more (n * 10 + d) (omega arith) ∙ rw (q, r)

-- a number of one digit
digits_one : (x : ℕ) → 0 < x → x < 10 → digits_of x ≡ (48 + x) ∷ []
digits_one x p l =
    let q : x / 10 ≡ 0 = omega arith in
    let r : x % 10 ≡ x = omega arith in
    digits_more x p ∙ rw (q, r, digits_none)

-- EVERY NUMBER IS READ

more_stops : (limit n : ℕ) (rest : List ℕ) → NoDigit rest → more_digits limit n rest ≡ parsed n rest
unfolding more_digits
more_stops limit n [] h = refl
more_stops limit n (y ∷ rest) h = rw h

more_digit : (limit n d : ℕ) (rest : List ℕ) → d < 10 → n * 10 + d ≤ limit → more_digits limit n ((48 + d) ∷ rest) ≡ more_digits limit (n * 10 + d) rest
unfolding more_digits
more_digit limit n d rest l m =
    let z : 48 + d - 48 ≡ d = omega arith in
    rw (digit_yes d l, z, le-leb (n * 10 + d) limit m)

first_digit : (limit d : ℕ) (rest : List ℕ) → 0 < d → d < 10 → number_ahead limit ((48 + d) ∷ rest) ≡ more_digits limit d rest
unfolding number_ahead
first_digit limit d rest p l =
    let z : 48 + d - 48 ≡ d = omega arith in
    rw (ne_eqb (48 + d) 48 (λ e. omega arith), digit_yes d l, z)

-- over a bound of the number, since its digits in front are those of a smaller one
number_goes : (b limit x : ℕ) → x < b → 0 < x → x ≤ limit → (rest : List ℕ) → number_ahead limit (digits_of x ++ rest) ≡ more_digits limit x rest
number_goes zero limit x l p m rest = absurd (omega arith)
number_goes (suc b) limit x l p m rest =
    let go : (c : Bool) → leb x 9 ≡ c → number_ahead limit (digits_of x ++ rest) ≡ more_digits limit x rest
    = elim [
      | true ↦ λ e.
          (let s : x ≤ 9 = leb-true x 9 e in
          ap (λ (k : List ℕ). number_ahead limit (k ++ rest)) (digits_one x p (omega arith)) ∙ first_digit limit x rest p (omega arith))
      | false ↦ λ e.
          (let s : 9 < x = leb-false x 9 e in
          let w : x / 10 * 10 + x % 10 ≡ x = omega arith in
          ap (λ (k : List ℕ). number_ahead limit (k ++ rest)) (digits_more x p)
          ∙ ap (number_ahead limit) (append_assoc (digits_of (x / 10)) ((48 + x % 10) ∷ []) rest)
          ∙ number_goes b limit (x / 10) (omega arith) (omega arith) (omega arith) ((48 + x % 10) ∷ rest)
          ∙ more_digit limit (x / 10) (x % 10) rest (omega arith) (omega arith)
          ∙ ap (λ (k : ℕ). more_digits limit k rest) w)
    ]
    in go (leb x 9) refl

pub number_reads : (limit x : ℕ) (rest : List ℕ) → x ≤ limit → NoDigit rest → number_ahead limit (decimal x ++ rest) ≡ parsed x rest
unfolding number_ahead
number_reads limit zero rest m n = rw decimal_zero
number_reads limit (suc x) rest m n =
    ap (λ (k : List ℕ). number_ahead limit (k ++ rest)) (decimal_more (suc x) (omega arith))
    ∙ number_goes (suc (suc x)) limit (suc x) (omega arith) (omega arith) m rest
    ∙ more_stops limit (suc x) rest n

-- WHAT IS READ IS A NUMBER

more_sound : (limit n : ℕ) (text : List ℕ) (x : ℕ) (rest : List ℕ) → 0 < n → n ≤ limit → more_digits limit n text ≡ parsed x rest
    → (x ≤ limit) × (0 < x) × (digits_of n ++ text ≡ digits_of x ++ rest)
unfolding more_digits
more_sound limit n [] x rest p l h = let a : n ≡ x = cc in let b : ◌≡◌ {A = List ℕ} [] rest = cc in (omega arith, omega arith, rw (a, b))
more_sound limit n (y ∷ t) x rest p l h =
    let go : (b : Bool) → is_digit y ≡ b → (c : Bool) → leb (n * 10 + (y - 48)) limit ≡ c
    → cond b (cond c (more_digits limit (n * 10 + (y - 48)) t) wrong) (parsed n (y ∷ t)) ≡ parsed x rest
    → (x ≤ limit) × (0 < x) × (digits_of n ++ (y ∷ t) ≡ digits_of x ++ rest)
    = elim [
      | true ↦ λ e. elim [
        | true ↦ λ f g.
            (let d = digit_parts y e in
            let i = more_sound limit (n * 10 + (y - 48)) t x rest (omega arith) (leb-true _ _ f) g in
            let s : 48 + (y - 48) ≡ y = omega arith in
            let q : digits_of (n * 10 + (y - 48)) ≡ digits_of n ++ (y ∷ []) =
            digit_behind n (y - 48) (omega arith) (omega arith) ∙ ap (λ (k : ℕ). digits_of n ++ (k ∷ [])) s in
            (i.0, i.1, sym (append_assoc (digits_of n) (y ∷ []) t) ∙ ap (λ (k : List ℕ). k ++ t) (sym q) ∙ i.2))
        | false ↦ λ f g. (let z : ◌≡◌ {A = ℕ} 0 1 = cc in absurd (omega arith))
      ]
      | false ↦ λ e c f g. (let a : n ≡ x = cc in let b : (y ∷ t) ≡ rest = cc in (omega arith, omega arith, rw (a, b)))
    ]
    in go (is_digit y) refl (leb (n * 10 + (y - 48)) limit) refl h

-- the limit leaves room for a digit, as the first one is not held to it
pub number_sound : (limit : ℕ) (text : List ℕ) (x : ℕ) (rest : List ℕ) → 9 ≤ limit → number_ahead limit text ≡ parsed x rest → (x ≤ limit) × (text ≡ decimal x ++ rest)
unfolding number_ahead
number_sound limit [] x rest l h = let z : ◌≡◌ {A = ℕ} 0 1 = cc in absurd (omega arith)
number_sound limit (y ∷ t) x rest l h = go (eqb y 48) refl (is_digit y) refl h
  where
    go : (b : Bool) → eqb y 48 ≡ b → (c : Bool) → is_digit y ≡ c → cond b (parsed 0 t) (cond c (more_digits limit (y - 48) t) wrong) ≡ parsed x rest
        → (x ≤ limit) × ((y ∷ t) ≡ decimal x ++ rest)
    go true e c f g = let a : ◌≡◌ {A = ℕ} 0 x = cc in let b : t ≡ rest = cc in (omega arith, rw (← a, ← b, eqb-true y 48 e, decimal_zero))
    go false e true f g =
        let d = digit_parts y f in
        let ne : y ≡ 48 → ⊥ = λ z. eqb-false y 48 e z in
        let i = more_sound limit (y - 48) t x rest (omega (arith, ne)) (omega arith) g in
        let s : 48 + (y - 48) ≡ y = omega arith in
        let q : digits_of (y - 48) ≡ y ∷ [] = digits_one (y - 48) (omega (arith, ne)) (omega arith) ∙ ap (λ (k : ℕ). k ∷ []) s in
        (i.0, ap (λ (k : List ℕ). k ++ t) (sym q) ∙ i.2 ∙ ap (λ (k : List ℕ). k ++ rest) (sym (decimal_more x i.1)))
    go false e false f g = let z : ◌≡◌ {A = ℕ} 0 1 = cc in absurd (omega arith)
