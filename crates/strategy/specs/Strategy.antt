-- The words of demand 3 on one screen: when a predicate is due, what a strategy is, what it probes, and when it is right.
use Rattle.std.specs.Prelude.{ℕ, ◌≡◌, Bool, true, false, cond, List, [], ◌∷◌, ◌++◌}
use Rattle.strategy.specs.Assignment.{Assignment, update, AgreeOff}

-- a query as a function: its value on each assignment; a tree's value is one such
abbrev pub Formula : Type 0
Formula = Assignment → Bool

-- demand 2: with the conditions earlier in the order at their true outcomes, some outcomes of the later ones make
-- this condition alone decide the tree. What is neither `c` nor later keeps its outcome in `a`.
abbrev pub Due : Formula → ℕ → List ℕ → Assignment → Type 0
Due f c later a = (q : Assignment) × AgreeOff later q a × (f (update q c true) ≡ f (update q c false) → ⊥)

-- what was seen on a row: each predicate probed with its outcome, in the sequence probed; none at first
abbrev pub State : Type 0
State = List (ℕ × Bool)

-- document 01's way, given for a query and an order: at its turn a predicate is probed (a look) or passed, by the
-- predicate and the state; after the last the answer comes from the state
pub record Strategy : Type 0 where
  pub probe : ℕ → State → Bool
  pub answer : State → Bool

-- the turn of `c` on `a`: a probe adds the predicate and its outcome to the state, a pass changes nothing
unfoldable pub turn : Strategy → Assignment → ℕ → State → State
turn S a c s = cond (S.probe c s) (s ++ ((c, a c) ∷ [])) s

-- the state after the turns of a list, from a state; and after the whole order, from nothing seen
unfoldable pub final_state_from : Strategy → Assignment → List ℕ → State → State
final_state_from S a [] s = s
final_state_from S a (c ∷ cs) s = final_state_from S a cs (turn S a c s)

abbrev pub final_state : Strategy → Assignment → List ℕ → State
final_state S a order = final_state_from S a order []

-- the predicates it probes, and its answer
unfoldable pub predicates : State → List ℕ
predicates [] = []
predicates (x ∷ s) = x.0 ∷ predicates s

abbrev pub probes : Strategy → Assignment → List ℕ → List ℕ
probes S a order = predicates (final_state S a order)

abbrev pub answer_of : Strategy → Assignment → List ℕ → Bool
answer_of S a order = S.answer (final_state S a order)

-- right whatever the assignment
abbrev pub Right : Formula → List ℕ → Strategy → Type 0
Right f order S = (a : Assignment) → answer_of S a order ≡ f a
