-- The live set of a row, and what one probe leaves of it.
use Rattle.std.specs.Prelude.{ℕ, zero, suc, ◌+◌, Bool, true, false, ◌&&◌, ◌||◌, not, cond, ltb, leb}
use Rattle.strategy.specs.Tree.{Tree, leaf, group, Forest, none, more, settles, size, sizes}

-- the predicates that can still decide; at its turn a predicate is probed exactly if it is live
abbrev pub Live : Type 0
Live = ℕ → Bool

-- is `d` in the span of `n` numbers from `i` on
unfoldable pub in_span : ℕ → ℕ → ℕ → Bool
in_span i n d = leb i d && ltb d (i + n)

-- the set without the span
unfoldable pub without : ℕ → ℕ → Live → Live
without i n live d = cond (in_span i n d) false (live d)

-- is some number of the span in the set
unfoldable pub meets : ℕ → ℕ → Live → Bool
meets i zero live = false
meets i (suc n) live = live i || meets (suc i) n live

-- a probe as it goes outward from its leaf: what is live by now, and whether its outcome has settled all so far
pub record Step : Type 0 where
  pub live : Live
  pub settled : Bool

-- a probe at its leaf
abbrev pub leaf_step : ℕ → Live → Step
leaf_step c live = record { live = without c 1 live; settled = true }

-- outward through a group, its numbers the span of `n` from `i`, from a member that the outcome `v` has settled: `v` settles the
-- group and its whole span goes out of the set, or nothing of the span is live and `v` is the group's value too, or here it stops
unfoldable pub through : Bool → Bool → ℕ → ℕ → Step → Step
through k v i n s =
    cond s.settled
    (cond (settles k v) (record { live = without i n s.live; settled = true }) (record { live = s.live; settled = not (meets i n s.live) }))
    s

-- a probe of `c` with the outcome `v` in a tree whose numbers begin with `i`
unfoldable mutual
  pub settle : Tree ℕ → ℕ → ℕ → Bool → Live → Step
  settle (leaf d) i c v live = leaf_step c live
  settle (group k f) i c v live = through k v i (sizes f) (settle_in f i c v live)

  pub settle_in : Forest ℕ → ℕ → ℕ → Bool → Live → Step
  settle_in none i c v live = record { live = live; settled = false }
  settle_in (more t f) i c v live = cond (ltb c (i + size t)) (settle t i c v live) (settle_in f (i + size t) c v live)
