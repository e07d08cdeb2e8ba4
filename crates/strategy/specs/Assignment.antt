-- Assignments of outcomes to predicates, and lists of predicate numbers.
use Rattle.std.specs.Prelude.{ℕ, ◌≡◌, Bool, true, false, ◌||◌, cond, ◌⊎◌, List, [], ◌∷◌, eqb}

-- document 01's pattern: a yes or a no for each predicate, as if they were unconnected
abbrev pub Assignment : Type 0
Assignment = ℕ → Bool

-- no for each predicate
abbrev pub all_no : Assignment
all_no c = false

-- `a` with the outcome of `c` set to `b`
unfoldable pub update : Assignment → ℕ → Bool → Assignment
update a c b d = cond (eqb d c) b (a d)

-- `c` is one of the list
abbrev pub Among : ℕ → List ℕ → Type 0
Among c [] = ⊥
Among c (d ∷ ds) = (c ≡ d) ⊎ Among c ds

-- the same as a test
unfoldable pub elem : ℕ → List ℕ → Bool
elem c [] = false
elem c (d ∷ ds) = eqb c d || elem c ds

-- no number stands twice in the list
abbrev pub Once : List ℕ → Type 0
Once [] = Unit {0}
Once (c ∷ cs) = (Among c cs → ⊥) × Once cs

-- two assignments give the same outcomes on the list, and off it
abbrev pub AgreeOn : List ℕ → Assignment → Assignment → Type 0
AgreeOn l a b = (d : ℕ) → Among d l → a d ≡ b d

abbrev pub AgreeOff : List ℕ → Assignment → Assignment → Type 0
AgreeOff l a b = (d : ℕ) → (Among d l → ⊥) → a d ≡ b d

-- an element put before the list, where the test says so
abbrev pub keep_if : {A : Type 0} → Bool → A → List A → List A
keep_if true x l = x ∷ l
keep_if false x l = l
