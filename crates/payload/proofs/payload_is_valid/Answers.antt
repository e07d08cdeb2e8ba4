-- `payload_is_valid` meets its contract: each return by the law of its path.
use Rattle.payload.proofs.Paths.{payload_no_column, payload_no_kind, payload_operand, payload_short}
use Rattle.predicate.specs.Payload.{kind_fits}
use Rattle.std.proofs.Common.{◌≡◌, ◌∙◌, ap, ℕ, ◌<◌, Bool, List, length, get_or}
use Rattle.std.proofs.lemmas.Grind.{get_or_default_zero}
use borrow.Author.Tests.{true-ltb}
use Rattle.payload.proofs.payload_is_valid.Goals as goal

pub returns-in_default : goal.returns-in_default
returns-in_default c = payload_short _ _ c.in_default.len_below

pub returns-in_default-get : goal.returns-in_default-get
returns-in_default-get c = payload_no_column _ _ c.in-len2-up.len_at_least _ c.from.ensures c.in_default-get.ensures.lookup.3

-- the tag found is that of the column
found : (tags : List ℕ) (column tag kind : ℕ) (fits : Bool) → column < length tags → tag ≡ get_or tags column tag → fits ≡ kind_fits tag kind → fits ≡ kind_fits (get_or tags column 0) kind
found tags column tag kind fits inside e f = f ∙ ap (λ (t : ℕ). kind_fits t kind) (e ∙ get_or_default_zero tags column tag inside)

pub returns-then-kind_fits : goal.returns-then-kind_fits
returns-then-kind_fits c =
    let l = c.in-Some.ensures.lookup in
    let inside = true-ltb _ _ l.0 in
    payload_operand _ _ c.in-len2-up.len_at_least _ c.from.ensures inside _ c.plain_kind-kind.ensures _ (found _ _ _ _ _ inside l.1 c.kind_fits.ensures) c.if-kind_fits.true _ c.operand_fits.ensures

pub returns-else-kind_fits : goal.returns-else-kind_fits
returns-else-kind_fits c =
    let l = c.in-Some.ensures.lookup in
    let inside = true-ltb _ _ l.0 in
    c.if-kind_fits.false ∙ payload_no_kind _ _ c.in-len2-up.len_at_least _ c.from.ensures inside _ c.plain_kind-kind.ensures _ (found _ _ _ _ _ inside l.1 c.kind_fits.ensures) c.if-kind_fits.false
