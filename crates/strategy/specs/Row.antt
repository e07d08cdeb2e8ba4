-- A row worked through by its live set, turn after turn.
use Rattle.std.specs.Prelude.{ℕ, Bool, false, ◌&&◌, ◌||◌, List, [], ◌∷◌, eqb}
use Rattle.strategy.specs.Assignment.{Assignment}
use Rattle.strategy.specs.Tree.{Tree}
use Rattle.strategy.specs.Live.{Live, Step, without}
use Rattle.strategy.specs.Propagation.{enclosing, propagate}

-- what a row has come to between two turns: which predicates can still decide, which were probed, and whether the row is selected
pub record RowProgress : Type 0 where
  pub live : Live
  pub probed : ℕ → Bool
  pub selected : Bool

-- before the first turn: some predicates are live, if the row takes part
abbrev pub unworked : (start : Live) → (part : Bool) → RowProgress
unworked start part = record { live = λ c. start c && part; probed = λ c. false; selected = false }

-- where a probe of `c` begins its way outward; nothing is settled where `c` is not live
abbrev pub asked : (c : ℕ) → Live → Step
asked c live = record { live = without c 1 live; settled = live c }

-- after the turn of `c`, whose outcome is yes where `met`, and whose propagation gives `s`: past the outermost group a yes selects the row
abbrev pub after_turn : (c : ℕ) → (met : Bool) → (s : Step) → RowProgress → RowProgress
after_turn c met s r = record { live = s.live; probed = λ d. r.probed d || (eqb d c && r.live c); selected = r.selected || (s.settled && met) }

-- a turn: where `c` is live it is probed, and its outcome goes outward
abbrev pub turn : Tree ℕ → Assignment → (c : ℕ) → RowProgress → RowProgress
turn t a c r = after_turn c (r.live c && a c) (propagate (r.live c && a c) (enclosing t 0 c) (asked c r.live)) r

unfoldable pub work : Tree ℕ → Assignment → (turns : List ℕ) → RowProgress → RowProgress
work t a [] r = r
work t a (c ∷ cs) r = work t a cs (turn t a c r)
