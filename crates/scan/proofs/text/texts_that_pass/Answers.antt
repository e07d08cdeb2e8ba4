-- `texts_that_pass` meets its contract.
use Rattle.sets.specs.Kept.{KeptBy}
use Rattle.sets.specs.SetLaws.{has_none}
use Rattle.std.proofs.Common.{arith, sym, ◌∙◌}
use Rattle.std.specs.Prelude.{Bool, ℕ, ◌≡◌}
use Rattle.scan.proofs.text.texts_that_pass.Goals as goal

none-due : (P : ℕ → Bool) (due : ℕ) → due ≡ 0 → KeptBy P due 0
none-due P due e d = rw (e, has_none d)

pub returns-then-rows-eq0 : goal.returns-then-rows-eq0
returns-then-rows-eq0 c = none-due _ _ c.if-rows-eq0.true

pub rest-requires : goal.rest-requires
rest-requires c = omega (arith, c.if-rows-eq0.false)

pub fronts_that_pass-requires : goal.fronts_that_pass-requires
fronts_that_pass-requires c =
    (c.requires, sym c.of_fronts.ensures ∙ c.if-of_fronts.true)

pub returns-then-rest-ne0 : goal.returns-then-rest-ne0
returns-then-rest-ne0 c = c.fronts_that_pass.ensures

pub texts_one_by_one-requires : goal.texts_one_by_one-requires
texts_one_by_one-requires c = c.requires

pub returns : goal.returns
returns c = c.texts_one_by_one.ensures
