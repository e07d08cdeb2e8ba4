-- `windows_rows` meets its contract: each due row's slot is tested.
use Rattle.std.proofs.Common.{◌≡◌, arith}
use Rattle.sets.specs.Set.{below_set}
use Rattle.heads.proofs.DueRowLaws.{due_rows}
use Rattle.filters.proofs.windows.windows_rows.Goals as goal

pub all_in_turn-requires : goal.all_in_turn-requires
all_in_turn-requires c =
    let e : c.args.rows.due ≡ below_set 64 = omega arith in
    λ d m. (due_rows c.args.rows c.requires.0 d (rw e m), c.requires.1)

pub kept_where-requires : goal.kept_where-requires
kept_where-requires c = λ d m. (due_rows c.args.rows c.requires.0 d m, c.requires.1)

pub returns-then-rows-below : goal.returns-then-rows-below
returns-then-rows-below c =
    let e : c.args.rows.due ≡ below_set 64 = omega arith in
    rw e (c.all_in_turn.ensures _ (λ d p m e. e))
