-- The machine's steps, one law for each.
use Prim.Native.Nat.{ℕ, suc}
use mathlib.Core.Path.{◌≡◌, refl}
use mathlib.Core.Bool.{Bool, true, false}
use mathlib.Core.List.{List, [], ◌∷◌, ◌++◌}
use borrow.Author.Tests.{ne_eqb}
use Rattle.fields.specs.Header.{field_of}
use Rattle.query.specs.Format.{predicate_tag}
use Rattle.syntax.specs.Spelling.{group_word, closing, comma}
use Rattle.syntax.specs.Parsed.{wrong, parsed, absent, strip}
use Rattle.syntax.specs.Conditions.{plain_ahead, condition_ahead}
use Rattle.syntax.specs.Machine.{misspelled, typed, Frame, opened, join_to, closed_with, start, after}

module _ (tags : List ℕ) (k : ℕ) where
  -- where a member is expected: a group, a condition, or neither
  pub start_group : (b : Bool) (s : List Frame) (rest : List ℕ) → start (suc k) tags s (group_word b ++ rest) ≡ start k tags (opened b s) rest
  unfolding start strip
  start_group true s rest = refl
  start_group false s rest = refl

  pub start_condition : (s : List Frame) (text p rest : List ℕ) → strip (group_word false) text ≡ absent → strip (group_word true) text ≡ absent
      → condition_ahead tags text ≡ parsed p rest → start (suc k) tags s text ≡ after k tags (field_of predicate_tag p) s rest
  unfolding start
  start_condition s text p rest a b c = rw (a, b, c)

  pub start_wrong : (s : List Frame) (text : List ℕ) → strip (group_word false) text ≡ absent → strip (group_word true) text ≡ absent
      → condition_ahead tags text ≡ wrong → start (suc k) tags s text ≡ misspelled
  unfolding start
  start_wrong s text a b c = rw (a, b, c)

  pub start_nothing : (s : List Frame) → start (suc k) tags s [] ≡ misspelled
  unfolding start strip condition_ahead plain_ahead
  start_nothing s = refl

  -- behind a member inside a group: a comma, the group's end, or neither
  pub after_comma : (m : List ℕ) (f : Frame) (s : List Frame) (rest : List ℕ) → after (suc k) tags m (f ∷ s) (comma ∷ rest) ≡ start k tags (join_to f m ∷ s) rest
  unfolding after
  after_comma m f s rest = refl

  pub after_closing : (m : List ℕ) (f : Frame) (s : List Frame) (rest : List ℕ) → after (suc k) tags m (f ∷ s) (closing ∷ rest) ≡ after k tags (closed_with f m) s rest
  unfolding after
  after_closing m f s rest = refl

  pub after_other : (m : List ℕ) (f : Frame) (s : List Frame) (x : ℕ) (rest : List ℕ) → (x ≡ comma → ⊥) → (x ≡ closing → ⊥)
      → after (suc k) tags m (f ∷ s) (x ∷ rest) ≡ misspelled
  unfolding after
  after_other m f s x rest a b = rw (ne_eqb x comma a, ne_eqb x closing b)

  pub after_nothing : (m : List ℕ) (f : Frame) (s : List Frame) → after (suc k) tags m (f ∷ s) [] ≡ misspelled
  unfolding after
  after_nothing m f s = refl

  -- behind the whole: nothing, or more than there should be
  pub after_whole : (m : List ℕ) → after (suc k) tags m [] [] ≡ typed m
  unfolding after
  after_whole m = refl

  pub after_more : (m : List ℕ) (x : ℕ) (rest : List ℕ) → after (suc k) tags m [] (x ∷ rest) ≡ misspelled
  unfolding after
  after_more m x rest = refl
