-- What the catalogue's layout and the reading's tables tell of the decoded input.
use Prim.Native.Nat.{ℕ, ◌≤◌, ◌<◌}
use native.Mathlib.Omega.{arith}
use mathlib.Core.Path.{◌≡◌, refl, sym, ap, ◌∙◌}
use mathlib.Core.List.{List, []}
use lib.ListN.{length, get_or, take, length-take}
use lib.Seq.{ext_get_or, get_or-take}
use Rattle.std.specs.Prelude.{Ok, Err}
use Rattle.fields.specs.Decoded.{Decoded, refused, accepted, and_then}
use Rattle.catalogue.specs.Catalogue.{numbers, Catalogue}
use Rattle.catalogue.specs.Decode.{decode_catalogue}
use Rattle.catalogue.specs.declared.refusal.Refusal.{Refusal as CatalogueRefusal}
use Rattle.catalogue.specs.Refusal.{refusal_number as catalogue_number}
use Rattle.layout.specs.declared.Layout.{Layout}
use Rattle.layout.specs.Layout.{Laid, LaidOut}
use Rattle.layout.proofs.Laid.{column_shown}
use Rattle.predicate.specs.Payload.{tags_of}
use Rattle.predicate.proofs.PayloadLaws.{tags_length, tags_at, shown_tag}
use Rattle.query.specs.Query.{Query}
use Rattle.query.specs.declared.refusal.Refusal.{Refusal as QuestionRefusal}
use Rattle.query.specs.Refusal.{refusal_number as question_number}
use Rattle.reading.specs.declared.tables.Tables.{Tables}
use Rattle.query.specs.Decode.{decode_tagged, decode_query}
use Rattle.reading.specs.QueryRead.{QueryRead}
use Rattle.task.specs.Input.{with_query, decode_input}
use Rattle.input.specs.Beginning.{HasInput}

-- the first tags of the layout are those of the catalogue's columns
pub laid_tags : {b : List ℕ} {l : Layout} {C : Catalogue} → Laid b l C → take l.columns l.tags ≡ tags_of C
laid_tags {b} {l} {C} h = ext_get_or 0 (take l.columns l.tags) (tags_of C) (omega (arith, many, tags_length C.columns, h.columns)) same
  where
    many : length (take l.columns l.tags) ≡ l.columns
    many = rw length-take (omega (arith, h.few, h.tags_size))

    same : (i : ℕ) → i < length (take l.columns l.tags) → get_or (take l.columns l.tags) i 0 ≡ get_or (tags_of C) i 0
    same i k =
        let j : i < l.columns = omega (arith, many) in
        get_or-take l.columns l.tags i 0 j
        ∙ shown_tag b C.rows (get_or l.tags i 0) (get_or l.starts i 0) (get_or C.columns i (numbers [])) (column_shown i h j)
        ∙ sym (tags_at C.columns i (numbers []) (omega (arith, h.columns)))

module _ (b : List ℕ) (l : Layout) where
  -- a layout has a tag for each column
  pub laid_columns_few : (d : Decoded Catalogue) → LaidOut b (Ok l) d → l.columns ≤ length l.tags
  laid_columns_few (refused x) h = absurd h
  laid_columns_few (accepted C) h = omega (arith, h.few, h.tags_size)

  pub laid_tags_length : (d : Decoded Catalogue) → LaidOut b (Ok l) d → l.columns ≡ length (take l.columns l.tags)
  laid_tags_length d h = rw length-take (omega (arith, laid_columns_few d h))

-- a layout that refuses
pub layout_refuses : (b q : List ℕ) (e : CatalogueRefusal) → LaidOut b (Err e) (decode_catalogue b) → decode_input b q ≡ refused (catalogue_number e)
unfolding decode_input
layout_refuses b q e h = go (decode_catalogue b) h
  where
    go : (d : Decoded Catalogue) → LaidOut b (Err e) d → and_then d (λ C. with_query C (decode_query C q)) ≡ refused (catalogue_number e)
    go (refused x) w = ap refused (sym w)
    go (accepted C) w = absurd w

module _ (b q : List ℕ) (l : Layout) (tags : List ℕ) (same : tags ≡ take l.columns l.tags) (T : Tables) where
  -- by what the catalogue and the question decode to
  module _ (C : Catalogue) (e : decode_catalogue b ≡ accepted C) (h : Laid b l C) where
    whole : decode_input b q ≡ with_query C (decode_tagged tags q)
    unfolding decode_input decode_query
    whole = rw (e, same, laid_tags h)

    stopped : (d : Decoded Query) (k : QuestionRefusal) → decode_tagged tags q ≡ d → QueryRead tags q d (Err k) T → decode_input b q ≡ refused (question_number k)
    stopped (refused x) k z w = whole ∙ rw z (ap refused (sym w.0))
    stopped (accepted Q) k z w = let y : ◌≡◌ {A = ℕ} 0 1 = cc in absurd (omega arith)

    begun : (d : Decoded Query) (n : ℕ) → decode_tagged tags q ≡ d → QueryRead tags q d (Ok n) T
        → HasInput b q (record { rows = l.rows; n = n; tags = l.tags; starts = l.starts; mark = l.mark }) T
    begun (refused x) n z w = absurd w.0
    begun (accepted Q) n z w =
        let y : length Q.predicates ≡ n = cc in
        let t : tags ≡ tags_of C = same ∙ laid_tags h in
        record {
          input = record { catalogue = C; query = Q };
          decoded = whole ∙ rw z;
          layout = l;
          laid = h;
          tags = refl;
          starts = refl;
          rows = refl;
          mark = refl;
          tabled = rw (← t, ← y) w.1;
        }

  -- the layout done, by what the catalogue decodes to
  module _ (h : LaidOut b (Ok l) (decode_catalogue b)) where
    by_catalogue : {A : Type 0} → ((C : Catalogue) → decode_catalogue b ≡ accepted C → Laid b l C → A) → A
    by_catalogue {A} f = go (decode_catalogue b) refl h
      where
        go : (d : Decoded Catalogue) → decode_catalogue b ≡ d → LaidOut b (Ok l) d → A
        go (refused x) e v = absurd v
        go (accepted C) e v = f C e v

    pub question_refuses : (k : QuestionRefusal) → QueryRead tags q (decode_tagged tags q) (Err k) T → decode_input b q ≡ refused (question_number k)
    question_refuses k w = by_catalogue (λ C e v. stopped C e v (decode_tagged tags q) k refl w)

    pub input_accepted : (n : ℕ) → QueryRead tags q (decode_tagged tags q) (Ok n) T
        → HasInput b q (record { rows = l.rows; n = n; tags = l.tags; starts = l.starts; mark = l.mark }) T
    input_accepted n w = by_catalogue (λ C e v. begun C e v (decode_tagged tags q) n refl w)
