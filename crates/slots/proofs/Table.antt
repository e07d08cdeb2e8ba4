-- The table of limits follows its rule, which is computed over the whole table at once.
use Prim.Native.Nat.{ℕ}
use mathlib.Core.Path.{◌≡◌, refl, sym, subst}
use mathlib.Core.List.{List}
use lib.ListN.{replicate}
use borrow.Rule.Slice.PartMut.{put_mid}
use Rattle.fields.proofs.Tables.{table_at}
use Rattle.slots.specs.Limits.{limit_of, limit_count, Limits}

-- the table once its free entries are these
abbrev freed : List ℕ → List ℕ
freed entries = put_mid 232 24 (replicate limit_count 255) entries

pub limits_table : (entries : List ℕ) → entries ≡ replicate 24 0 → Limits (freed entries)
limits_table entries e =
    subst (λ (l : List ℕ). Limits (freed l)) (sym e) (record { size = refl; rule = table_at limit_of (freed (replicate 24 0)) limit_count refl refl })
