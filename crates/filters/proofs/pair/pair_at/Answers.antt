-- `pair_at` meets its contract: two flags.
use Rattle.heads.proofs.ByteTests.{both_flags}
use Rattle.heads.specs.ByteTest.{test_passes}
use Rattle.std.specs.Prelude.{get_or}
use Rattle.filters.proofs.pair.pair_at.Goals as goal

pub returns : goal.returns
returns c = let a = c.args in both_flags (test_passes a.k.first (get_or a.b.now a.p 0)) (test_passes a.k.second (get_or a.b.now a.q 0)) c.passes.ensures c.passes-2.ensures
