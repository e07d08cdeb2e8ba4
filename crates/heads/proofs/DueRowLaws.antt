-- The due rows of a block are there.
use Rattle.std.proofs.Common.{◌≡◌, ℕ, ◌+◌}
use Rattle.std.proofs.Math.Logic.{∥∥₁_map}
use Rattle.catalogue.proofs.Rows.{has_row}
use Rattle.heads.specs.declared.rows.DueRows.{DueRows}
use Rattle.heads.specs.Block.{HasDueRows}

-- the due rows, of a column whose tag is known
pub due_rows : (D : DueRows) {tag : ℕ} → D.tag ≡ tag → HasDueRows D.b.now tag D.start D.base D.due
due_rows D e d m = rw e at (has_row D.b.now D.start (D.base + d) D.tag (∥∥₁_map D.there (λ f. f d m)))
