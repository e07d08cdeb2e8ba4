-- The three-valued test: can a predicate still decide the tree alone, as far as is seen.
use Rattle.std.specs.Prelude.{ℕ, Bool, true, false, ◌&&◌, ◌||◌, not, cond, List, eqb}
use Rattle.strategy.specs.Assignment.{Assignment, elem}
use Rattle.strategy.specs.Tree.{Tree, leaf, group, Forest, none, more, settles, eval, evals}

-- what is known of a predicate
pub data Status : Type 0 where
  unseen : Status
  seen : Bool → Status

-- a partial assignment
abbrev pub Partial : Type 0
Partial = ℕ → Status

-- the listed predicates unseen, the others as in `a`
unfoldable pub hide : List ℕ → Assignment → Partial
hide l a d = cond (elem d l) unseen (seen (a d))

abbrev pub is_unseen : Status → Bool
is_unseen unseen = true
is_unseen (seen b) = false

-- the unseen ones taken as `v`: with no the least the tree can come to, with yes the most
abbrev pub status_as : Bool → Status → Bool
status_as v unseen = v
status_as v (seen b) = b

abbrev pub unseen_as : Bool → Partial → Assignment
unseen_as v m d = status_as v (m d)

-- `c` alone at its leaf; alone in a group where it is alone in a member and the other members, every unseen outcome
-- leaning against it, have not settled the group
unfoldable mutual
  pub alone : Tree ℕ → ℕ → Partial → Bool
  alone (leaf d) c m = eqb d c
  alone (group k f) c m = alone_in f k c m

  pub alone_in : Forest ℕ → Bool → ℕ → Partial → Bool
  alone_in none k c m = false
  alone_in (more t f) k c m =
      (alone t c m && not (settles k (evals f k (unseen_as (not k) m)))) || (not (settles k (eval t (unseen_as (not k) m))) && alone_in f k c m)
