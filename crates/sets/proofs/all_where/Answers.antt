-- `all_where` meets its contract: the two halves are joined.
use Rattle.std.proofs.Common.{◌∙◌, arith}
use Rattle.sets.specs.SetLaws.{below_has}
use Rattle.sets.specs.Gathered.{halves_joined}
use Rattle.sets.proofs.all_where.Goals as goal

pub half_where-requires : goal.half_where-requires
half_where-requires g c = (omega arith, λ d h. c.requires _ (below_has 64 _ (omega arith)))

pub half_where-requires-2 : goal.half_where-requires-2
half_where-requires-2 g c = (omega arith, λ d h. c.requires _ (below_has 64 _ (omega arith)))

pub returns : goal.returns
returns g c P A =
    halves_joined P (c.from.ensures ∙ c.half_where.ensures P (λ d p h e. A _ p (below_has 64 _ (omega arith)) e))
    (c.from-2.ensures ∙ c.half_where-2.ensures P (λ d p h e. A _ p (below_has 64 _ (omega arith)) e))
