-- The sequence of the turns is one that a copy may have.
use mathlib.Core.List.{List}
use Prim.Native.Nat.{ℕ}
use Rattle.fields.specs.Decoded.{Decoded, refused, accepted}
use Rattle.task.specs.Input.{Input}
use Rattle.demands.specs.Log.{Sequenced}
use Rattle.finish_log.proofs.InTurn.{made_once}
use Rattle.probe_log.specs.Sequence.{in_turn}

pub in_turn_sequenced : (D : Decoded Input) (order : List ℕ) → Sequenced D order (in_turn D order)
in_turn_sequenced (refused e) order = tt
in_turn_sequenced (accepted i) order = made_once i order
