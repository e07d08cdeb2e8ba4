-- How the layout of a catalogue shows the decoded one.
use Rattle.std.specs.Prelude.{ℕ, ◌+◌, ◌≤◌, ◌≡◌, Result, Ok, Err, List, [], ◌∷◌, length, get_or}
use Rattle.fields.specs.Decoded.{Decoded, refused, accepted}
use Rattle.catalogue.specs.declared.refusal.Refusal.{Refusal}
use Rattle.catalogue.specs.Format.{row_limit, column_limit}
use Rattle.catalogue.specs.Catalogue.{Column, Catalogue}
use Rattle.catalogue.specs.Decode.{Columns}
use Rattle.catalogue.specs.Refusal.{refusal_number}
use Rattle.catalogue.specs.InPlace.{Shows, ShowsMark}
use Rattle.layout.specs.declared.ColumnsLayout.{ColumnsLayout}
use Rattle.layout.specs.declared.Layout.{Layout}

-- the columns, from number i on
abbrev pub ShowsAll : List ℕ → (rows : ℕ) → (tags starts : List ℕ) → (i : ℕ) → List Column → Type 0
ShowsAll b rows tags starts i [] = Unit {0}
ShowsAll b rows tags starts i (c ∷ cs) = Shows b rows (get_or tags i 0) (get_or starts i 0) c × ShowsAll b rows tags starts (i + 1) cs

-- a layout of so many columns shows these
pub record ColumnsLaid (b : List ℕ) (rows n : ℕ) (l : ColumnsLayout) (C : Columns) : Type 0 where
  pub end : l.end ≡ C.end
  pub inside : l.end ≤ length b
  pub count : length C.columns ≡ n
  pub shown : ShowsAll b rows l.tags l.starts 0 C.columns
  pub tags_size : length l.tags ≡ column_limit
  pub starts_size : length l.starts ≡ column_limit

-- the same refusal, or a layout that shows the columns
abbrev pub ColumnsLaidOut : List ℕ → (rows n : ℕ) → Result ColumnsLayout Refusal → Decoded Columns → Type 0
ColumnsLaidOut b rows n (Err e) (refused number) = refusal_number e ≡ number
ColumnsLaidOut b rows n (Ok l) (accepted C) = ColumnsLaid b rows n l C
ColumnsLaidOut b rows n (Err e) (accepted C) = ⊥
ColumnsLaidOut b rows n (Ok l) (refused number) = ⊥

-- a layout shows this catalogue
pub record Laid (b : List ℕ) (l : Layout) (C : Catalogue) : Type 0 where
  pub rows : l.rows ≡ C.rows
  pub columns : l.columns ≡ length C.columns
  pub short : l.rows ≤ row_limit
  pub few : l.columns ≤ column_limit
  pub shown : ShowsAll b C.rows l.tags l.starts 0 C.columns
  pub tags_size : length l.tags ≡ column_limit
  pub starts_size : length l.starts ≡ column_limit
  pub mark : ShowsMark b l.mark C

-- the same refusal, or a layout that shows what was decoded
abbrev pub LaidOut : List ℕ → Result Layout Refusal → Decoded Catalogue → Type 0
LaidOut b (Err e) (refused number) = refusal_number e ≡ number
LaidOut b (Ok l) (accepted C) = Laid b l C
LaidOut b (Err e) (accepted C) = ⊥
LaidOut b (Ok l) (refused number) = ⊥
