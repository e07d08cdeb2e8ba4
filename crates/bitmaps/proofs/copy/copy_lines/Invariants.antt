-- `copy_lines` meets its contract. Invariant: the lines passed stand at the front, the further bytes are the old ones.
use Rattle.bitmaps.specs.Table.{lines_of}
use Rattle.fields.specs.Output.{Wrote}
use Rattle.std.specs.Prelude.{◌*◌, ◌≡◌}
use Rattle.bitmaps.proofs.copy.copy_lines.Given as goal

abbrev pub invariant-loop-c : goal.invariant-loop-c
invariant-loop-c l = record { place : l.at ≡ l.c * l.from.size; wrote : Wrote 0 (lines_of l.from.size l.from.table.now l.c) l.initial.to l.at l.to }
