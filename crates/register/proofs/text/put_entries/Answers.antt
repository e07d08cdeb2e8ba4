-- `put_entries` meets its contract. Invariant: the lines of the rows passed are written.
use Rattle.register.specs.RegisterLaws.{entries_more, entries_none}
use Rattle.std.proofs.Common.{arith}
use Rattle.std.specs.Prelude.{◌≡◌}
use Rattle.register.proofs.text.put_entries.Goals as goal

pub loop-row-init : goal.loop-row-init
loop-row-init c = (entries_none c.args.listed.now, omega arith)

pub put_entry-end-requires : goal.put_entry-end-requires
put_entry-end-requires c = (omega arith, omega arith)

pub loop-row-preserved : goal.loop-row-preserved
loop-row-preserved c = let l = c.loop-row in (entries_more l.row c.args.listed.now (omega arith) l.invariant.0 c.put_entry-end.ensures.0, omega arith)

pub returns : goal.returns
returns c = let e : c.loop-row.row ≡ c.args.rows = omega arith in rw e at c.loop-row.invariant
