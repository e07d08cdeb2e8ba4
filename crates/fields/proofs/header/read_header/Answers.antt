-- `read_header` meets its contract: each return is the case of `header_at` that its tests choose.
use Rattle.fields.proofs.Tests.{tests}
use Rattle.fields.specs.Header.{header_at}
use Rattle.std.proofs.Common.{arith}
use Rattle.fields.proofs.header.read_header.Goals as goal

pub returns-then-end-at-lt-SIZE : goal.returns-then-end-at-lt-SIZE
unfolding header_at
returns-then-end-at-lt-SIZE c = (search (tests), tt)

pub returns-then-end-start : goal.returns-then-end-start
unfolding header_at
returns-then-end-start c = (search (tests, ← c.two_bytes-size.ensures.0), tt)

pub returns : goal.returns
unfolding header_at
returns c = (search (tests, ← c.two_bytes-size.ensures.0), omega arith)
