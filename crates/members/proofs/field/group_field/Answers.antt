-- `group_field` meets its contract: each return by the law of its path.
use Rattle.query.proofs.Fields.{group_deep, group_empty, group_members}
use Rattle.std.proofs.Common.{arith}
use Rattle.members.proofs.field.group_field.Goals as goal

pub returns-then-allowed-eq0 : goal.returns-then-allowed-eq0
returns-then-allowed-eq0 c = group_deep _ _ _ _ (omega arith)

pub returns-then-start-end : goal.returns-then-start-end
returns-then-start-end c = group_empty _ _ _ _ (omega arith) (omega arith)

pub returns : goal.returns
returns c = group_members _ _ _ _ (omega arith) (λ e. omega arith)
