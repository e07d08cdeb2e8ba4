-- The check of a payload, path by path.
use Prim.Native.Nat.{ℕ, ◌-◌, ◌≤◌, ◌<◌}
use mathlib.Core.Path.{◌≡◌}
use mathlib.Core.Bool.{Bool, true, false}
use mathlib.Core.List.{List}
use lib.ListN.{length, get_or, take, drop}
use borrow.Author.Tests.{lt-ltb, le-leb, le-ltb, lt-leb}
use Rattle.fields.proofs.Parts.{part_rest}
use Rattle.predicate.specs.Kinds.{plain_kind}
use Rattle.predicate.specs.Payload.{column_byte, kind_byte, kind_fits, operand_fits, valid_payload}

module _ (tags payload : List ℕ) where
  pub payload_short : length payload < 2 → false ≡ valid_payload tags payload
  unfolding valid_payload
  payload_short h = rw (lt-leb 2 (length payload) h)

  module _ (two : 2 ≤ length payload) (column : ℕ) (column_is : column ≡ column_byte payload) where
    pub payload_no_column : length tags ≤ column → false ≡ valid_payload tags payload
    unfolding valid_payload
    payload_no_column h = rw (le-leb 2 (length payload) two, ← column_is, le-ltb column (length tags) h)

    module _ (inside : column < length tags) (kind : ℕ) (kind-is : kind ≡ plain_kind (kind_byte payload))
        (fits : Bool) (fits-is : fits ≡ kind_fits (get_or tags column 0) kind) where
      pub payload_no_kind : fits ≡ false → false ≡ valid_payload tags payload
      unfolding valid_payload
      payload_no_kind h =
          rw (le-leb 2 (length payload) two, ← column_is, lt-ltb column (length tags) inside, ← kind-is, ← fits-is, h)

      -- the operand is handed on as a part, up to the payload's end
      pub payload_operand : fits ≡ true → (r : Bool) → r ≡ operand_fits kind (take (length payload - 2) (drop 2 payload)) →
          r ≡ valid_payload tags payload
      unfolding valid_payload
      payload_operand h r r-is =
          rw (le-leb 2 (length payload) two, ← column_is, lt-ltb column (length tags) inside, ← kind-is, ← fits-is, h)
          (rw (part_rest payload 2) at r-is)
