-- The loop over the columns: the layout shows those read so far, and whatever the rest gives, the whole gives.
use Prim.Native.Nat.{ℕ, zero, suc, ◌+◌, ◌-◌, ◌≤◌, ◌<◌}
use native.Mathlib.Omega.{arith}
use mathlib.Core.Path.{◌≡◌, refl, ap, ◌∙◌}
use mathlib.Core.List.{List, [], ◌∷◌, ◌++◌, append_assoc, append-nil}
use lib.ListN.{length, get_or, set, length-append, length-set}
use lib.Seq.{get_or-set_same, get_or-set_other}
use Rattle.std.specs.Prelude.{Result, Ok, Err}
use Rattle.fields.specs.Decoded.{Decoded, refused, accepted, mapped}
use Rattle.fields.specs.Header.{header_at}
use Rattle.slots.specs.Slots.{texts_at}
use Rattle.catalogue.specs.declared.column.ColumnField.{ColumnField}
use Rattle.catalogue.specs.declared.column.ColumnField.TheVariants.{Numbers, Texts}
use Rattle.catalogue.specs.declared.refusal.Refusal.{Refusal}
use Rattle.catalogue.specs.Format.{number_tag, text_tag, column_limit}
use Rattle.catalogue.specs.Catalogue.{Column, numbers, texts}
use Rattle.catalogue.specs.Decode.{numbers_at, Columns, column_before, column_then, column_of, columns_at}
use Rattle.catalogue.specs.Sound.{SoundColumn}
use Rattle.catalogue.specs.InPlace.{Shows}
use Rattle.layout.specs.Layout.{ShowsAll, ColumnsLaidOut}

-- what the field at a place is
abbrev field_at : List ℕ → (rows at : ℕ) → Result ColumnField Refusal
field_at b rows at = column_of b rows (header_at b at (length b))

-- columns before what the rest gives
abbrev all_before : List Column → Decoded Columns → Decoded Columns
all_before cs (refused e) = refused e
all_before cs (accepted d) = accepted (record { columns = cs ++ d.columns; end = d.end })

before_one_more : (cs : List Column) (c : Column) (d : Decoded Columns) → all_before cs (mapped (column_before c) d) ≡ all_before (cs ++ (c ∷ [])) d
before_one_more cs c (refused e) = refl
before_one_more cs c (accepted d) = rw (append_assoc cs (c ∷ []) d.columns)

columns_step : (b : List ℕ) (rows n at : ℕ) → 0 < n → columns_at b rows n at ≡ column_then b rows (field_at b rows at) (λ next. columns_at b rows (n - 1) next)
unfolding columns_at
columns_step b rows zero at h = absurd (omega arith)
columns_step b rows (suc n) at h = let z : suc n - 1 ≡ n = omega arith in rw z

columns_none : (b : List ℕ) (rows n at : ℕ) → n ≡ 0 → columns_at b rows n at ≡ accepted (record { columns = []; end = at })
unfolding columns_at
columns_none b rows n at e = rw e

module _ (b : List ℕ) (rows : ℕ) where
  -- a later entry of the tables does not matter
  shows_set : (tags starts : List ℕ) (i x y j : ℕ) (cs : List Column) → j + length cs ≤ i → ShowsAll b rows tags starts j cs → ShowsAll b rows (set tags i x) (set starts i y) j cs
  shows_set tags starts i x y j [] l s = tt
  shows_set tags starts i x y j (c ∷ cs) l s =
      let ne : j ≡ i → ⊥ = λ e. omega arith in
      let t : get_or (set tags i x) j 0 ≡ get_or tags j 0 = get_or-set_other tags i j x 0 ne in
      let p : get_or (set starts i y) j 0 ≡ get_or starts j 0 = get_or-set_other starts i j y 0 ne in
      (rw (t, p) s.0, shows_set tags starts i x y (j + 1) cs (omega arith) s.1)

  shows_last : (tags starts : List ℕ) (j i : ℕ) (cs : List Column) (c : Column) → j + length cs ≡ i → ShowsAll b rows tags starts j cs → Shows b rows (get_or tags i 0) (get_or starts i 0) c
      → ShowsAll b rows tags starts j (cs ++ (c ∷ []))
  shows_last tags starts j i [] c e s h = let z : j ≡ i = omega arith in (rw z h, tt)
  shows_last tags starts j i (d ∷ cs) c e s h = (s.0, shows_last tags starts (j + 1) i cs c (omega arith) s.1 h)

-- where the loop stands: i columns are read from `from` on, the next begins at `at`
pub record Reading (b : List ℕ) (rows columns from : ℕ) (tags starts : List ℕ) (at i : ℕ) : Type 0 where
  pub few : columns ≤ column_limit
  pub count : i ≤ columns
  pub inside : at ≤ length b
  pub tags_size : length tags ≡ column_limit
  pub starts_size : length starts ≡ column_limit
  pub done : List Column
  pub done_count : length done ≡ i
  pub shown : ShowsAll b rows tags starts 0 done
  pub whole : columns_at b rows columns from ≡ all_before done (columns_at b rows (columns - i) at)

module _ (b : List ℕ) (rows columns from : ℕ) (tags starts : List ℕ) (at i : ℕ) (g : Reading b rows columns from tags starts at i) where
  -- one column more, of whatever tag
  reading_one : (tag start next : ℕ) (c : Column) → i < columns → next ≤ length b → Shows b rows tag start c
      → column_then b rows (field_at b rows at) (λ n. columns_at b rows (columns - i - 1) n) ≡ mapped (column_before c) (columns_at b rows (columns - i - 1) next)
      → Reading b rows columns from (set tags i tag) (set starts i start) next (i + 1)
  reading_one tag start next c l n s e =
      let t : get_or (set tags i tag) i 0 ≡ tag = get_or-set_same tags i tag 0 (omega (arith, g.few, g.tags_size)) in
      let p : get_or (set starts i start) i 0 ≡ start = get_or-set_same starts i start 0 (omega (arith, g.few, g.starts_size)) in
      let z : columns - i - 1 ≡ columns - (i + 1) = omega arith in
      let w : columns_at b rows columns from ≡ all_before (g.done ++ (c ∷ [])) (columns_at b rows (columns - (i + 1)) next) =
      rw (← z) (g.whole ∙ ap (all_before g.done) (columns_step b rows (columns - i) at (omega arith) ∙ e) ∙ before_one_more g.done c (columns_at b rows (columns - i - 1) next)) in
      record {
        few = g.few;
        count = omega arith;
        inside = n;
        tags_size = length-set tags i tag ∙ g.tags_size;
        starts_size = length-set starts i start ∙ g.starts_size;
        done = g.done ++ (c ∷ []);
        done_count = rw length-append (omega (arith, g.done_count));
        shown = shows_last b rows (set tags i tag) (set starts i start) 0 i g.done c (omega (arith, g.done_count))
            (shows_set b rows tags starts i tag start 0 g.done (omega (arith, g.done_count)) g.shown) (rw (t, p) s);
        whole = w;
      }

  module _ (l : i < columns) where
    pub reading_numbers : (start end : ℕ) (tags' starts' : List ℕ) (at' : ℕ) → Ok (Numbers start end) ≡ field_at b rows at → SoundColumn b rows (Ok (Numbers start end))
        → tags' ≡ set tags i number_tag → starts' ≡ set starts i start → at' ≡ end → Reading b rows columns from tags' starts' at' (i + 1)
    reading_numbers start end tags' starts' at' q s t p a =
        rw (t, p, a) (reading_one number_tag start end (numbers (numbers_at b start rows)) l s.1 (refl, omega (arith, s), refl) (rw (← q)))

    pub reading_texts : (start end : ℕ) (tags' starts' : List ℕ) (at' : ℕ) → Ok (Texts start end) ≡ field_at b rows at → SoundColumn b rows (Ok (Texts start end))
        → tags' ≡ set tags i text_tag → starts' ≡ set starts i start → at' ≡ end → Reading b rows columns from tags' starts' at' (i + 1)
    reading_texts start end tags' starts' at' q s t p a =
        rw (t, p, a) (reading_one text_tag start end (texts (texts_at b start rows)) l s.1 (refl, omega (arith, s), refl, s.2) (rw (← q)))

    pub reading_refused : (e : Refusal) → Err e ≡ field_at b rows at → ColumnsLaidOut b rows columns (Err e) (columns_at b rows columns from)
    reading_refused e q = rw (g.whole, columns_step b rows (columns - i) at (omega arith), ← q) refl

  pub reading_all : columns ≤ i → ColumnsLaidOut b rows columns (Ok (record { end = at; tags = tags; starts = starts })) (columns_at b rows columns from)
  reading_all l =
      rw (g.whole, columns_none b rows (columns - i) at (omega arith), append-nil)
      (record {
        end = refl;
        inside = g.inside;
        count = omega (arith, g.done_count, g.count);
        shown = g.shown;
        tags_size = g.tags_size;
        starts_size = g.starts_size;
      })
