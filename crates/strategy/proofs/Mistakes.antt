-- Document 01's mistakes of a good clerk: for each, a row where the mistaken rule and the right one differ.
use Rattle.std.specs.Prelude.{ℕ, ◌≡◌, refl, Bool, true, false, ◌&&◌, not, [], ◌∷◌, eqb}
use Rattle.std.proofs.Common.{sym, true≢false}
use Rattle.std.proofs.Math.Bool.{xor, and-true}
use Rattle.strategy.specs.Assignment.{Assignment, all_no, update, elem}
use Rattle.strategy.specs.Strategy.{Strategy, turn, final_state_from, answer_of, Right}
use Rattle.strategy.specs.Trace.{due, decides, some_outcomes}
use Rattle.strategy.specs.Ours.{recall, later_than, ours}
use Rattle.strategy.specs.Tree.{Tree, leaf, group, Forest, none, more, all, any, join, eval, size}
use Rattle.strategy.specs.Alone.{Partial, hide, status_as, alone}
use Rattle.strategy.specs.Live.{Live, in_span, without, meets, leaf_step, through}
use Rattle.strategy.specs.Propagation.{enclosing, propagate}
use Rattle.strategy.specs.Row.{RowProgress, work}
use Rattle.strategy.proofs.Parish.{parish}

abbrev two : Tree ℕ → Tree ℕ → Forest ℕ
two s t = more s (more t none)

-- yes at `c`, no elsewhere
abbrev only : ℕ → Assignment
only c d = eqb d c

-- 1. Skipping a condition because its own group is settled, yet not when an outer group is.
-- Any of (0, all of (1, 2)), where 0 is yes: predicate 1 is alone in its own group, and not due.
abbrev inner : Tree ℕ
inner = all (two (leaf 1) (leaf 2))

pub own_group : (alone inner 1 (hide (1 ∷ 2 ∷ []) (only 0)) ≡ true) × (due (eval (any (two (leaf 0) inner))) 1 (2 ∷ []) (only 0) ≡ false)
unfolding alone hide elem due decides some_outcomes xor update eval
own_group = (refl, refl)

-- 2. Dropping every skipped condition from its group, so that an all-of group of unlooked members counts as true.
-- The value of a tree whose unseen leaves are dropped from their group:
unfoldable mutual
  pub dropping : Tree ℕ → Bool → Partial → Bool
  dropping (leaf c) k m = status_as (not k) (m c)
  dropping (group j f) k m = dropping_in f j m

  pub dropping_in : Forest ℕ → Bool → Partial → Bool
  dropping_in none k m = not k
  dropping_in (more t f) k m = join k (dropping t k m) (dropping_in f k m)

-- Any of (all of (0, 1), 2), where 2 is no and the order leaves 0 and 1 out: dropping says yes, the value with them as no is no.
pub dropped : (dropping parish true (hide (0 ∷ 1 ∷ []) all_no) ≡ true) × (answer_of (ours (eval parish) (2 ∷ [])) all_no (2 ∷ []) ≡ false)
unfolding dropping hide elem ours recall final_state_from turn later_than due decides some_outcomes xor update eval
dropped = (refl, refl)

-- 3. Letting one entry's outcome settle another in the same byte.
-- Any of (0, 1): a row with yes at 0, then a row with yes at 1. Begun with what the first left live, the second row is not worked at all.
abbrev either : Tree ℕ
either = any (two (leaf 0) (leaf 1))

abbrev left_over : Live
left_over = (propagate true (enclosing either 0 0) (leaf_step 0 (λ d. true))).live

abbrev second : Live → RowProgress
second live = work either (only 1) (0 ∷ 1 ∷ []) (record { live = live; probed = λ c. false; selected = false })

pub shared_row :
    ((second left_over).selected ≡ false) × ((second left_over).probed 0 ≡ false) × ((second left_over).probed 1 ≡ false)
    × ((second (λ d. true)).selected ≡ true) × ((second (λ d. true)).probed 0 ≡ true) × ((second (λ d. true)).probed 1 ≡ true)
unfolding work propagate enclosing through without meets in_span size
shared_row = (refl, refl, refl, refl, refl, refl)

-- 4. Taking "year before 1700" and "year after 1800" as connected.
-- All of (0, 1), where 0 and 1 never come together: the clerk makes no probe and says no. Where they are not both yes he is
-- right; whatever the assignment, he is not, and 0 is due.
abbrev century : Tree ℕ
century = all (two (leaf 0) (leaf 1))

abbrev never : Strategy
never = record { probe = λ c s. false; answer = λ s. false }

pub connected : (a : Assignment) → (a 0 && a 1) ≡ false → answer_of never a (0 ∷ 1 ∷ []) ≡ eval century a
unfolding final_state_from turn eval
connected a h = sym (rw (and-true (a 1)) h)

pub unconnected : (Right (eval century) (0 ∷ 1 ∷ []) never → ⊥) × (due (eval century) 0 (1 ∷ []) all_no ≡ true)
unfolding final_state_from turn due decides some_outcomes xor update eval
unconnected = (λ R. true≢false (sym (R (λ d. true))), refl)
