-- 64 rows at once: of each predicate the rows at which it is live, as a word. Row d of the block is bit d of each word, and no row's
-- bits touch another's: every relation here says what happens at each row by itself.
use Rattle.std.specs.Prelude.{ℕ, ◌+◌, ◌*◌, ◌≤◌, ◌<◌, ◌≡◌, Bool, false, ◌&&◌, cond, List, length, get_or}
use Rattle.strategy.specs.Tree.{settles}
use Rattle.strategy.specs.Live.{Live, Step, in_span, meets, through}
use Rattle.strategy.specs.Propagation.{Ancestor, propagate}
use Rattle.sets.specs.Set.{has}
use Rattle.query.specs.Format.{predicate_limit}
use Rattle.ancestors.specs.Ancestors.{ancestors_width, ancestor_place, height_at}

-- the live set of row d
abbrev pub row_live : (live : List ℕ) → (d : ℕ) → Live
row_live L d = λ c. has (get_or L c 0) d

-- the propagation at row d: it goes on at the rows of `active`
abbrev pub row_step : (live : List ℕ) → (active d : ℕ) → Step
row_step L active d = record { live = row_live L d; settled = has active d }

-- the rows of `gone` are taken out of the n words from a on; `left` has the rows at which one of these is live still
pub record TakenOut (a n gone left : ℕ) (before after : List ℕ) : Type 0 where
  pub size : length after ≡ length before
  pub words : (c d : ℕ) → has (get_or after c 0) d ≡ cond (in_span a n c && has gone d) false (has (get_or before c 0) d)
  pub meeting : (d : ℕ) → has left d ≡ meets a n (row_live after d)

-- the active rows at which none of the n words from a on is live
abbrev pub StillActiveIs : (a n active r : ℕ) → (live : List ℕ) → Type 0
StillActiveIs a n active r L = (d : ℕ) → has r d ≡ cond (meets a n (row_live L d)) false (has active d)

-- the active rows at which the outcome settles a group that `k` settles
abbrev pub SettledRows : (k : Bool) → (active met settled : ℕ) → Type 0
SettledRows k active met settled = (d : ℕ) → has settled d ≡ (has active d && settles k (has met d))

-- outward through one group, from the active rows to those at which it goes on
pub record Passed (g : Ancestor) (met active next : ℕ) (before after : List ℕ) : Type 0 where
  pub size : length after ≡ length before
  pub rows : (d : ℕ) → row_step after next d ≡ through g.settling (has met d) g.first g.count (row_step before active d)

-- outward through all groups of a list, from the due rows to those at which the last of them is passed
pub record Propagated (gs : List Ancestor) (met due passed : ℕ) (before after : List ℕ) : Type 0 where
  pub size : length after ≡ length before
  pub rows : (d : ℕ) → row_step after passed d ≡ propagate (has met d) gs (row_step before due d)

-- an ancestor at place i of the table is a span of the words
pub record HasAncestor (A : List ℕ) (i words : ℕ) : Type 0 where
  pub inside : i + 2 < length A
  pub ordered : get_or A i 0 ≤ get_or A (i + 1) 0
  pub held : get_or A (i + 1) 0 ≤ words

-- predicate c has a line in the table, and each of its ancestors is such a span
pub record HasAncestors (A : List ℕ) (c words : ℕ) : Type 0 where
  pub few : c < predicate_limit
  pub line : ancestors_width * c < length A
  pub each : (k : ℕ) → k < height_at A c → HasAncestor A (ancestor_place c k) words
