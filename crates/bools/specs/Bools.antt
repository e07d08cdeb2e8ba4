-- Facts by cases on Booleans, and the tests of two numbers as equations.
use Rattle.std.specs.Prelude.{ℕ, ◌≤◌, ◌<◌, ◌≡◌, refl, Bool, true, false, ◌&&◌, ◌||◌, not, ◌⊎◌, T, eqb, ltb, leb}
use Rattle.std.proofs.Common.{arith, sym, ◌∙◌, true≢false, inl, inr, eqb→eq, ltb→lt, lt→ltb, leb→le, le→leb, nltb→le}
use Rattle.std.proofs.Math.Bool.{xor}
use Rattle.std.proofs.lemmas.Bool.{false≢true}
use Rattle.std.proofs.Math.Dec.{eqb_refl}

pub which : (b : Bool) → (b ≡ true) ⊎ (b ≡ false)
which true = inl refl
which false = inr refl

pub clash {ℓ} : {A : Type ℓ} {b : Bool} → b ≡ true → b ≡ false → A
clash p q = absurd (true≢false (sym p ∙ q))

pub not_true : (b : Bool) → (b ≡ true → ⊥) → b ≡ false
not_true true f = absurd (f refl)
not_true false f = refl

pub stable : (a b : Bool) → ((a ≡ b → ⊥) → ⊥) → a ≡ b
stable true true n = refl
stable true false n = absurd (n true≢false)
stable false true n = absurd (n false≢true)
stable false false n = refl

pub iff_eq : (a b : Bool) → (a ≡ true → b ≡ true) → (b ≡ true → a ≡ true) → a ≡ b
iff_eq true true f g = refl
iff_eq true false f g = sym (f refl)
iff_eq false true f g = g refl
iff_eq false false f g = refl

-- what holds at an outcome and at the other holds at each
pub each : (P : Bool → Type 0) (k : Bool) → P k → P (not k) → (v : Bool) → P v
each P true x y true = x
each P true x y false = y
each P false x y true = y
each P false x y false = x

pub self_or_not : (k v : Bool) → (v ≡ k) ⊎ (v ≡ not k)
self_or_not true true = inl refl
self_or_not true false = inr refl
self_or_not false true = inr refl
self_or_not false false = inl refl

pub not_self : (k : Bool) → k ≡ not k → ⊥
not_self true e = true≢false e
not_self false e = false≢true e

pub not_of_true : (b : Bool) → not b ≡ true → b ≡ false
not_of_true true h = absurd (false≢true h)
not_of_true false h = refl

pub not_of_false : (b : Bool) → not b ≡ false → b ≡ true
not_of_false true h = refl
not_of_false false h = absurd (true≢false h)

pub both : {a b : Bool} → a ≡ true → b ≡ true → (a && b) ≡ true
both p q = rw (p, q)

pub and_parts : (a b : Bool) → (a && b) ≡ true → (a ≡ true) × (b ≡ true)
and_parts true b h = (refl, h)
and_parts false b h = absurd (false≢true h)

pub and_left : (a b : Bool) → (a && b) ≡ true → a ≡ true
and_left a b h = (and_parts a b h).0

pub and_right : (a b : Bool) → (a && b) ≡ true → b ≡ true
and_right a b h = (and_parts a b h).1

pub and_fails : (a b : Bool) → (a && b) ≡ false → (a ≡ false) ⊎ (b ≡ false)
and_fails true b h = inr h
and_fails false b h = inl refl

pub or_left : {a : Bool} (b : Bool) → a ≡ true → (a || b) ≡ true
or_left b p = rw p

pub or_right : (a : Bool) {b : Bool} → b ≡ true → (a || b) ≡ true
or_right true p = refl
or_right false p = p

pub or_cases : (a b : Bool) → (a || b) ≡ true → (a ≡ true) ⊎ (b ≡ true)
or_cases true b h = inl refl
or_cases false b h = inr h

pub or_fails : (a b : Bool) → (a || b) ≡ false → (a ≡ false) × (b ≡ false)
or_fails true b h = absurd (true≢false h)
or_fails false b h = (refl, h)

pub xor_differ : (a b : Bool) → xor a b ≡ true → a ≡ b → ⊥
unfolding xor
xor_differ true true h e = false≢true h
xor_differ true false h e = true≢false e
xor_differ false true h e = false≢true e
xor_differ false false h e = false≢true h

pub differ_xor : (a b : Bool) → (a ≡ b → ⊥) → xor a b ≡ true
unfolding xor
differ_xor true true n = absurd (n refl)
differ_xor true false n = refl
differ_xor false true n = refl
differ_xor false false n = absurd (n refl)

T_of : (b : Bool) → T b → b ≡ true
T_of true t = refl
T_of false t = absurd t

of_T : (b : Bool) → b ≡ true → T b
of_T true t = tt
of_T false t = absurd (false≢true t)

-- the test of equality
pub eqb_self : (c : ℕ) → eqb c c ≡ true
eqb_self c = T_of (eqb c c) (eqb_refl c)

pub eqb_eq : (c d : ℕ) → eqb c d ≡ true → c ≡ d
eqb_eq c d h = eqb→eq c d (of_T (eqb c d) h)

pub eqb_ne : (c d : ℕ) → (c ≡ d → ⊥) → eqb c d ≡ false
eqb_ne c d h = not_true (eqb c d) (λ e. h (eqb_eq c d e))

pub same? : (c d : ℕ) → (c ≡ d) ⊎ (c ≡ d → ⊥)
same? c d = go (eqb c d) refl
  where
    go : (b : Bool) → eqb c d ≡ b → (c ≡ d) ⊎ (c ≡ d → ⊥)
    go true e = inl (eqb_eq c d e)
    go false e = inr (λ p. true≢false (sym (eqb_self d) ∙ (rw p at e)))

-- the tests of order
pub ltb_yes : (m n : ℕ) → m < n → ltb m n ≡ true
ltb_yes m n h = T_of (ltb m n) (lt→ltb m n h)

pub ltb_lt : (m n : ℕ) → ltb m n ≡ true → m < n
ltb_lt m n e = ltb→lt m n (of_T (ltb m n) e)

pub ltb_no : (m n : ℕ) → n ≤ m → ltb m n ≡ false
ltb_no m n h = not_true (ltb m n) (λ e. let l : m < n = ltb_lt m n e in omega arith)

pub ltb_le : (m n : ℕ) → ltb m n ≡ false → n ≤ m
ltb_le m n e = nltb→le m n (of_T (not (ltb m n)) (rw e))

pub leb_yes : (m n : ℕ) → m ≤ n → leb m n ≡ true
leb_yes m n h = T_of (leb m n) (le→leb m n h)

pub leb_le : (m n : ℕ) → leb m n ≡ true → m ≤ n
leb_le m n e = leb→le m n (of_T (leb m n) e)
