-- A kind below the opposites is its own plain kind, and an opposite is so much above its.
use Prim.Native.Nat.{ℕ, ◌-◌, ◌≤◌, ◌<◌}
use mathlib.Core.Path.{◌≡◌}
use Rattle.bools.specs.Bools.{ltb_yes, ltb_no}
use Rattle.predicate.specs.Kinds.{opposite_from, plain_kind}

pub kind_below : (kind : ℕ) → kind < opposite_from → plain_kind kind ≡ kind
unfolding plain_kind
kind_below kind l = rw (ltb_yes kind opposite_from l)

pub kind_opposite : (kind : ℕ) → opposite_from ≤ kind → plain_kind kind ≡ kind - opposite_from
unfolding plain_kind
kind_opposite kind l = rw (ltb_no kind opposite_from l)
