-- `limit_table` meets its contract: the entries that forbid nothing are zeros, all others as at first.
use Rattle.slots.proofs.Table.{limits_table}
use Rattle.slots.proofs.limits.limit_table.Goals as goal

pub returns : goal.returns
returns c = limits_table c.fill.new.self (c.fill.ensures.after (λ y e. e))
