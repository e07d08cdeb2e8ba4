-- The first c records are stored, and what stood after them stays.
use Rattle.std.proofs.Common.{◌≡◌}
use Rattle.records.proofs.Tabulated.{filled}
use Rattle.records.proofs.tabulate.Given as goal

abbrev pub invariant-loop-c : goal.invariant-loop-c
invariant-loop-c l = l.table ≡ filled l.q l.offsets l.initial.table l.c
