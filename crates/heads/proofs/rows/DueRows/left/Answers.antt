-- `left` meets its contract: what is left is within what was due.
use Rattle.std.proofs.Math.Logic.{∥∥₁_map}
use Rattle.heads.proofs.rows.DueRows.left.Goals as goal

pub invariant_of-result : goal.invariant_of-result
invariant_of-result c = record { bytes = c.args.self.bytes; there = ∥∥₁_map c.args.self.there (λ f d m. f d (c.requires d m)) }
