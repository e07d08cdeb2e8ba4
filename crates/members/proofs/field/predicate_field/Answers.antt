-- `predicate_field` meets its contract: each return by the law of its path.
use Rattle.members.proofs.Paths.{predicate_invalid, predicate_leaf, predicate_many, predicate_repeated}
use Rattle.predicate.proofs.PayloadLaws.{valid_payload_lem}
use Rattle.std.proofs.Common.{arith, sym, ◌∙◌}
use Rattle.members.proofs.field.predicate_field.Goals as goal

pub returns-then-earlier-ge-LIMIT : goal.returns-then-earlier-ge-LIMIT
returns-then-earlier-ge-LIMIT c =
    let a = c.args in
    predicate_many a.tags.now a.earlier.q.now a.earlier.offsets.now a.earlier.n a.start a.end (omega arith)

pub returns-then-not-payload_is_valid : goal.returns-then-not-payload_is_valid
returns-then-not-payload_is_valid c =
    let a = c.args in
    predicate_invalid a.tags.now a.earlier.q.now a.earlier.offsets.now a.earlier.n a.start a.end (omega arith) _ c.payload_is_valid.ensures (c.if-not-payload_is_valid.true)

pub is_repeated-requires : goal.is_repeated-requires
is_repeated-requires c = (valid_payload_lem _ _ (sym c.payload_is_valid.ensures ∙ c.if-not-payload_is_valid.false)).head

pub returns-then-is_repeated : goal.returns-then-is_repeated
returns-then-is_repeated c =
    let a = c.args in
    predicate_repeated a.tags.now a.earlier.q.now a.earlier.offsets.now a.earlier.n a.start a.end (omega arith) _ c.payload_is_valid.ensures (c.if-not-payload_is_valid.false) _ c.is_repeated.ensures c.if-is_repeated.true

pub returns : goal.returns
returns c =
    let a = c.args in
    predicate_leaf a.tags.now a.earlier.q.now a.earlier.offsets.now a.earlier.n a.start a.end (omega arith) _ c.payload_is_valid.ensures (c.if-not-payload_is_valid.false) _ c.is_repeated.ensures c.if-is_repeated.false
