-- `plain_kind` meets its contract: each return is the case of `plain_kind` that its test chooses.
use Rattle.fields.proofs.Tests.{tests}
use Rattle.predicate.specs.Kinds.{plain_kind}
use Rattle.predicate.proofs.kind.plain_kind.Goals as goal

pub returns-then-kind-lt-OPPOSITE_FROM : goal.returns-then-kind-lt-OPPOSITE_FROM
unfolding plain_kind
returns-then-kind-lt-OPPOSITE_FROM c = search tests

pub returns-else-kind-lt-OPPOSITE_FROM : goal.returns-else-kind-lt-OPPOSITE_FROM
unfolding plain_kind
returns-else-kind-lt-OPPOSITE_FROM c = search tests
