-- Document 01's parish of three entries: its traces in both orders, by computation.
use Rattle.std.specs.Prelude.{ℕ, ◌≡◌, refl, true, false, ◌||◌, [], ◌∷◌, eqb}
use Rattle.std.proofs.Math.Bool.{xor}
use Rattle.strategy.specs.Assignment.{Assignment, update}
use Rattle.strategy.specs.Trace.{decides, some_outcomes, due, trace}
use Rattle.strategy.specs.Tree.{Tree, leaf, none, more, all, any, eval}

-- year 1700 to 1799 (0) and parish beginning "ash" (1), or year blank (2)
abbrev pub parish : Tree ℕ
parish = any (more (all (more (leaf 0) (more (leaf 1) none))) (more (leaf 2) none))

-- 1701 "Ash"; 1822 "ASHBY"; both blank
abbrev ash : Assignment
ash c = eqb c 0 || eqb c 1

abbrev ashby : Assignment
ashby c = eqb c 1

abbrev blank : Assignment
blank c = eqb c 2

-- order 00 01 02: entries 0 and 2, looks 3, 1, 2
pub traces_012 :
    (trace (eval parish) ash (0 ∷ 1 ∷ 2 ∷ []) ≡ (0, true) ∷ (1, true) ∷ [])
    × (trace (eval parish) ashby (0 ∷ 1 ∷ 2 ∷ []) ≡ (0, false) ∷ (2, false) ∷ [])
    × (trace (eval parish) blank (0 ∷ 1 ∷ 2 ∷ []) ≡ (0, false) ∷ (2, true) ∷ [])
unfolding trace due decides some_outcomes xor update eval
traces_012 = (refl, refl, refl)

-- order 02 01 00: the same list, looks 2, 2, 3
pub traces_210 :
    (trace (eval parish) ash (2 ∷ 1 ∷ 0 ∷ []) ≡ (2, false) ∷ (1, true) ∷ (0, true) ∷ [])
    × (trace (eval parish) ashby (2 ∷ 1 ∷ 0 ∷ []) ≡ (2, false) ∷ (1, true) ∷ (0, false) ∷ [])
    × (trace (eval parish) blank (2 ∷ 1 ∷ 0 ∷ []) ≡ (2, true) ∷ [])
unfolding trace due decides some_outcomes xor update eval
traces_210 = (refl, refl, refl)

pub listed : (eval parish ash ≡ true) × (eval parish ashby ≡ false) × (eval parish blank ≡ true)
unfolding eval
listed = (refl, refl, refl)
