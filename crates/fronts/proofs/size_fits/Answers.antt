-- `size_fits` meets its contract.
use Rattle.fields.proofs.Tests.{tests}
use Rattle.fronts.proofs.size_fits.Goals as goal

pub returns-then-kind-eq-EQUALS : goal.returns-then-kind-eq-EQUALS
returns-then-kind-eq-EQUALS c = search tests

pub returns-else-kind-eq-EQUALS : goal.returns-else-kind-eq-EQUALS
returns-else-kind-eq-EQUALS c = search tests
