-- What a run gives of each row: demand 2 over decoded values.
use Rattle.std.specs.Prelude.{ℕ, Bool, not, ◌&&◌, cond, List, [], get_or}
use Rattle.catalogue.specs.Catalogue.{Catalogue, is_withdrawn}
use Rattle.predicate.specs.Meaning.{Predicate, outcome, truth}
use Rattle.strategy.specs.Assignment.{Assignment, elem}
use Rattle.strategy.specs.Strategy.{State, predicates}
use Rattle.strategy.specs.Trace.{trace}
use Rattle.strategy.specs.Tree.{eval}
use Rattle.query.specs.Query.{Query}

-- what a run works on
pub record Task : Type 0 where
  pub catalogue : Catalogue
  pub query : Query
  pub order : List ℕ

-- the predicate of a number; there is none past the last
abbrev pub predicate_at : Query → (c : ℕ) → Predicate
predicate_at Q c = get_or Q.predicates c (record { column = 0; kind = 0; operand = []; place = 0 })

-- "On an entry of a run the pattern is that entry's true outcomes."; order 2: "A run takes blank as no"
abbrev pub assignment_at : Catalogue → Query → (row : ℕ) → Assignment
assignment_at C Q row c = truth (outcome C (predicate_at Q c) row)

-- whose turns there are, and the outcomes that count at a row
abbrev pub turns_of : Task → List ℕ
turns_of T = T.order

abbrev pub told : Task → (row : ℕ) → Assignment
told T row = assignment_at T.catalogue T.query row

-- "An entry is listed exactly if the question's tree .. holds of it"; order 6: a withdrawn one "is never listed .. whatever the question"
unfoldable pub is_selected : Task → (row : ℕ) → Bool
is_selected T row = not (is_withdrawn T.catalogue row) && eval T.query.tree (told T row)

-- the looks due at a row with their outcomes, in running order: "A look is registered exactly if, with the conditions earlier in
-- the order at their true outcomes, some outcomes of the later ones make this condition alone decide the tree."
unfoldable pub due_at : Task → (row : ℕ) → State
due_at T row = trace (eval T.query.tree) (told T row) (turns_of T)

-- order 6: a withdrawn entry is "never looked at, whatever the question"
unfoldable pub trace_at : Task → (row : ℕ) → State
trace_at T row = cond (is_withdrawn T.catalogue row) [] (due_at T row)

-- the predicates probed at a row
abbrev pub made_at : Task → (row : ℕ) → List ℕ
made_at T row = predicates (trace_at T row)

abbrev pub is_probed : Task → (c row : ℕ) → Bool
is_probed T c row = elem c (made_at T row)
