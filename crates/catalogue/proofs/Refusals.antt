-- Every catalogue is accepted, or refused by 1 to 6 or 23.
use Prim.Native.Nat.{ℕ, zero, suc, ◌≤◌}
use native.Mathlib.Omega.{arith}
use mathlib.Core.Path.{◌≡◌, refl}
use mathlib.Core.Logic.{◌⊎◌, inl, inr}
use mathlib.Core.List.{List}
use lib.ListN.{length}
use Rattle.std.specs.Prelude.{Option, None, Some, Result, Ok, Err}
use Rattle.fields.specs.Decoded.{Decoded, refused, accepted, mapped, and_then}
use Rattle.fields.specs.Header.{header_at}
use Rattle.catalogue.specs.declared.column.ColumnField.{ColumnField}
use Rattle.catalogue.specs.declared.column.ColumnField.TheVariants as column
use Rattle.catalogue.specs.declared.first.Counts.{Counts}
use Rattle.catalogue.specs.declared.refusal.Refusal.{Refusal}
use Rattle.catalogue.specs.declared.refusal.Refusal.TheVariants as refusal
use Rattle.catalogue.specs.Refusal.{refusal_number}
use Rattle.catalogue.specs.Mark.{mark_field_at, mark_of}
use Rattle.catalogue.specs.Decode.{first_field_of, column_of, Columns, column_then, columns_at, catalogue_of, first_then, decode_catalogue}

abbrev pub CatalogueRefusal : ℕ → Type 0
CatalogueRefusal e = ((1 ≤ e) × (e ≤ 6)) ⊎ (e ≡ 23)

refusal_range : (e : Refusal) → CatalogueRefusal (refusal_number e)
refusal_range refusal.FieldCut = inl (omega arith)
refusal_range refusal.NotCatalogue = inl (omega arith)
refusal_range refusal.CountsOutOfRange = inl (omega arith)
refusal_range refusal.NotColumn = inl (omega arith)
refusal_range refusal.BadSlot = inl (omega arith)
refusal_range refusal.BytesLeftOver = inl (omega arith)
refusal_range refusal.BadMark = inr refl

abbrev Refusing : {A : Type 0} → Decoded A → Type 0
Refusing (refused e) = CatalogueRefusal e
Refusing (accepted x) = Unit {0}

mapped_refusing : {A B : Type 0} (f : A → B) (d : Decoded A) → Refusing d → Refusing (mapped f d)
mapped_refusing f (refused e) s = s
mapped_refusing f (accepted x) s = tt

columns_refusing : (b : List ℕ) (rows n at : ℕ) → Refusing (columns_at b rows n at)
unfolding columns_at
columns_refusing b rows zero at = tt
columns_refusing b rows (suc n) at = go (column_of b rows (header_at b at (length b))) (λ next. columns_refusing b rows n next)
  where
    go : (f : Result ColumnField Refusal) → ((next : ℕ) → Refusing (columns_at b rows n next)) → Refusing (column_then b rows f (λ next. columns_at b rows n next))
    go (Err e) ih = refusal_range e
    go (Ok (column.Numbers start end)) ih = mapped_refusing _ (columns_at b rows n end) (ih end)
    go (Ok (column.Texts start end)) ih = mapped_refusing _ (columns_at b rows n end) (ih end)

mark_refusing : (b : List ℕ) (f : Result (Option ℕ) Refusal) → Refusing (mark_of b f)
mark_refusing b (Err e) = refusal_range e
mark_refusing b (Ok None) = tt
mark_refusing b (Ok (Some start)) = tt

catalogue_refusing : (b : List ℕ) → Refusing (decode_catalogue b)
unfolding decode_catalogue
catalogue_refusing b = go (first_field_of b (header_at b 0 (length b)))
  where
    columns_then : (rows : ℕ) (d : Decoded Columns) → Refusing d → Refusing (and_then d (catalogue_of b rows))
    columns_then rows (refused e) s = s
    columns_then rows (accepted c) s = mapped_refusing _ (mark_of b (mark_field_at b rows c.end)) (mark_refusing b (mark_field_at b rows c.end))

    go : (f : Result Counts Refusal) → Refusing (first_then b f)
    go (Err e) = refusal_range e
    go (Ok c) = columns_then c.rows (columns_at b c.rows c.columns c.next) (columns_refusing b c.rows c.columns c.next)

pub catalogue_refusal : (b : List ℕ) (e : ℕ) → decode_catalogue b ≡ refused e → CatalogueRefusal e
catalogue_refusal b e h = rw h at (catalogue_refusing b)
