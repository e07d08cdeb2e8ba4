-- The first field with every check passed.
use Prim.Native.Nat.{ℕ, ◌+◌, ◌-◌, ◌≤◌}
use mathlib.Core.Path.{◌≡◌}
use mathlib.Core.List.{List}
use lib.ListN.{get_or}
use borrow.Author.Tests.{eq-eqb, le-leb}
use Rattle.fields.specs.declared.header.Field.{Field}
use Rattle.std.specs.Prelude.{Some}
use Rattle.fields.specs.Numbers.{number_at}
use Rattle.catalogue.specs.Format.{first_tag, first_size, row_limit, column_limit}
use Rattle.catalogue.specs.Decode.{ok_counts, counts_at, first_field_of}

pub first_counts : (b : List ℕ) (f : Field) (rows columns : ℕ) → f.tag ≡ first_tag → f.end - f.start ≡ first_size → rows ≡ number_at b f.start 2 → columns ≡ get_or b (f.start + 2) 0
    → rows ≤ row_limit → 1 ≤ columns → columns ≤ column_limit → ok_counts rows columns f.end ≡ first_field_of b (Some f)
unfolding first_field_of counts_at
first_counts b f rows columns t s r c rl one cl =
    rw (eq-eqb f.tag first_tag t, eq-eqb (f.end - f.start) first_size s, ← r, ← c, le-leb rows row_limit rl, le-leb 1 columns one, le-leb columns column_limit cl)
