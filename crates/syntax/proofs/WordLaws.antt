-- How many bytes open a group, and members with a comma before the first are one byte more.
use Prim.Native.Nat.{ℕ, ◌+◌}
use native.Mathlib.Omega.{arith}
use mathlib.Core.Path.{◌≡◌}
use mathlib.Core.Bool.{Bool, true, false}
use mathlib.Core.List.{List, ◌++◌}
use lib.ListN.{length}
use Rattle.strategy.specs.Tree.{Forest, none, more, HasMember}
use Rattle.syntax.specs.Spelling.{group_word, spellings, others}

pub word_length : (k : Bool) (rest : List ℕ) → length (group_word k ++ rest) ≡ 4 + length rest
word_length true rest = omega arith
word_length false rest = omega arith

pub others_length : (f : Forest (List ℕ)) → HasMember f → length (others f) ≡ 1 + length (spellings f)
unfolding spellings
others_length none h = absurd h
others_length (more t f) h = omega arith
