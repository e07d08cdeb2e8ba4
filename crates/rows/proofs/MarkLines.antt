-- What the lines of a table of marks are to hold.
use Prim.Native.Nat.{ℕ, ◌-◌, ◌<◌}
use native.Mathlib.Omega.{arith}
use mathlib.Core.Path.{◌≡◌}
use Rattle.bools.specs.Bools.{ltb_yes, ltb_no}
use Rattle.bitmaps.specs.Table.{within}
use Rattle.query.specs.Format.{predicate_limit}
use Rattle.marks.specs.Marks.{met_line}
use Rattle.task.specs.Task.{Task, is_probed}
use Rattle.rows.specs.Worked.{is_met, marking}

module _ (T : Task) (n : ℕ) where
  pub probe_line : (c e : ℕ) → c < predicate_limit → marking T n c e ≡ within (is_probed T) n T.catalogue.rows c e
  probe_line c e l = rw (ltb_yes c predicate_limit l)

  pub met_line_lem : (c e : ℕ) → marking T n (met_line c) e ≡ within (is_met T) n T.catalogue.rows c e
  met_line_lem c e = let z : met_line c - predicate_limit ≡ c = omega arith in rw (ltb_no (met_line c) predicate_limit (omega arith), z)
