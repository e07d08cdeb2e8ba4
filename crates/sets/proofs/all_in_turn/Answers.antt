-- `all_in_turn` meets its contract: each answer becomes the lowest bit of what is gathered.
use Rattle.std.proofs.Common.{ap, arith, ◌∙◌}
use Rattle.sets.proofs.Loops.{byte_bit, doubled_small, gathering_end, gathering_next, gathering_none}
use Rattle.sets.specs.Gathered.{bit_of}
use Rattle.sets.specs.SetLaws.{below_has}
use Rattle.sets.proofs.all_in_turn.Goals as goal

pub loop-d-init : goal.loop-d-init
loop-d-init g c = (omega arith, λ P A. gathering_none P)

pub test-requires : goal.test-requires
test-requires g c = c.requires _ (below_has 64 _ (omega arith))

pub loop-d-preserved : goal.loop-d-preserved
loop-d-preserved g c =
    let i = c.loop-d.invariant in
    let b = c.from.ensures ∙ byte_bit c.test.result in (
      doubled_small c.test.result _ i.0 b c.loop-d-test.true c.loop-d.auto.d,
      λ P A. gathering_next (i.1 P A) c.loop-d-test.true (b ∙ ap bit_of (A _ _ (omega arith) c.test.ensures)),
    )

pub returns : goal.returns
returns g c P A = gathering_end (c.loop-d.invariant.1 P (λ d p h e. A d p (below_has 64 _ h) e)) (omega arith)
