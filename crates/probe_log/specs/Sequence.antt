-- The sequence in which the code writes the probes of a row: order 1 leaves it open.
use Rattle.std.specs.Prelude.{ℕ, List, []}
use Rattle.fields.specs.Decoded.{Decoded, refused, accepted}
use Rattle.task.specs.Task.{made_at}
use Rattle.task.specs.Input.{Input, decode_input}
use Rattle.demands.specs.Run.{request, task_of}
use Rattle.answers.specs.Written.{Written}
use Rattle.demands.specs.Log.{log_of}

-- that of their turns
abbrev pub in_turn : Decoded Input → (order : List ℕ) → (row : ℕ) → List ℕ
in_turn (refused e) order row = []
in_turn (accepted i) order row = made_at (task_of i order) row

-- what a copy in that sequence leaves
abbrev pub log_in_turn : (catalogue question order output : List ℕ) → Written
log_in_turn b q order output = log_of (in_turn (decode_input b q) order) (request b q order) output
