-- Typing a question, path by path: the first check that fails, or the bytes of the question at the output's front.
use Prim.Native.Nat.{ℕ, ◌^◌, ◌≤◌, ◌<◌}
use native.Mathlib.Omega.{arith}
use mathlib.Core.Path.{◌≡◌, sym, ◌∙◌}
use mathlib.Core.List.{List}
use lib.ListN.{length, take}
use lib.Seq.{length-take-le}
use borrow.Author.Tests.{le-leb, lt-leb}
use Rattle.std.specs.Prelude.{Ok, Err}
use Rattle.fields.specs.Decoded.{Decoded, refused, accepted}
use Rattle.fields.specs.Output.{Wrote}
use Rattle.fields.proofs.OutputLaws.{put_front_lem}
use Rattle.catalogue.specs.Catalogue.{Catalogue}
use Rattle.catalogue.specs.Decode.{decode_catalogue}
use Rattle.catalogue.specs.declared.refusal.Refusal.{Refusal as CatalogueRefusal}
use Rattle.catalogue.specs.Refusal.{refusal_number as catalogue_number}
use Rattle.layout.specs.declared.Layout.{Layout}
use Rattle.layout.specs.Layout.{Laid, LaidOut}
use Rattle.predicate.specs.Payload.{tags_of}
use Rattle.query.specs.Query.{Query}
use Rattle.query.specs.declared.refusal.Refusal.{Refusal as QuestionRefusal}
use Rattle.query.specs.Refusal.{refusal_number as question_number}
use Rattle.query.specs.Decode.{decode_tagged, decode_query}
use Rattle.reading.specs.declared.tables.Tables.{Tables}
use Rattle.reading.specs.QueryRead.{QueryRead}
use Rattle.syntax.specs.Machine.{typed_limit, Typed, misspelled, typed, question_of}
use Rattle.parser.specs.Reading.{QuestionTo}
use Rattle.input.proofs.Inputs.{laid_tags}
use Rattle.answers.specs.Answer.{Answer, Refused, Accepted}
use Rattle.answers.specs.Word.{packed}
use Rattle.answers.specs.Written.{Written, written}
use Rattle.answers.specs.Refusals.{text_misspelled, typed_output_too_short}
use Rattle.answers.specs.Checks.{checked}
use Rattle.demands.specs.Typed.{question_typed, text_typed, taken_text, catalogue_typed, typed_of}
use Rattle.typed.specs.Typing.{TypedFor}

-- what a call leaves is what the definition says
abbrev Leaves : Answer → (new : List ℕ) → Written → Type 0
Leaves a new w = written (packed a) new ≡ w

-- the same by the tags of the columns
abbrev LeavesFor : (tags : List ℕ) → Answer → (new text old : List ℕ) → Type 0
LeavesFor tags a new text old = TypedFor tags (question_of tags text) old (written (packed a) new)

-- THE QUESTION'S BYTES
module _ (tags q : List ℕ) (T : Tables) where
  pub question_refused : (k : QuestionRefusal) (d : Decoded Query) (old : List ℕ) → QueryRead tags q d (Err k) T → Leaves (Refused (question_number k)) old (question_typed d q old)
  question_refused k (refused x) old w = rw w.0
  question_refused k (accepted Q) old w = let y : ◌≡◌ {A = ℕ} 0 1 = cc in absurd (omega arith)

  pub question_no_room : (n : ℕ) (d : Decoded Query) (old : List ℕ) → QueryRead tags q d (Ok n) T → length old < length q
      → Leaves (Refused typed_output_too_short) old (question_typed d q old)
  unfolding checked
  question_no_room n (refused x) old w l = absurd w.0
  question_no_room n (accepted Q) old w l = rw (lt-leb (length q) (length old) l)

  pub question_written : (n : ℕ) (d : Decoded Query) (size : ℕ) (old new : List ℕ) → QueryRead tags q d (Ok n) T → length q ≤ length old
      → Wrote 0 q old size new → Leaves (Accepted 0 0 size) new (question_typed d q old)
  unfolding checked
  question_written n (refused x) size old new w l v = absurd w.0
  question_written n (accepted Q) size old new w l v =
      let z : size ≡ length q = omega (arith, v.place) in
      rw (le-leb (length q) (length old) l, z, v.bytes ∙ put_front_lem q old)

-- THE CATALOGUE AND THE TEXT
module _ (b text old : List ℕ) where
  pub catalogue_refused : (k : CatalogueRefusal) → LaidOut b (Err k) (decode_catalogue b) → Leaves (Refused (catalogue_number k)) old (typed_of b text old)
  unfolding typed_of
  catalogue_refused k h = go (decode_catalogue b) h
    where
      go : (d : Decoded Catalogue) → LaidOut b (Err k) d → Leaves (Refused (catalogue_number k)) old (catalogue_typed d text old)
      go (refused x) w = rw w
      go (accepted C) w = absurd w

  module _ (l : Layout) (h : LaidOut b (Ok l) (decode_catalogue b)) where
    -- of an accepted catalogue
    of_catalogue : (a : Answer) (new : List ℕ) → ((C : Catalogue) → Laid b l C → Leaves a new (text_typed C (taken_text C text) old)) → Leaves a new (typed_of b text old)
    unfolding typed_of
    of_catalogue a new f = go (decode_catalogue b) h
      where
        go : (d : Decoded Catalogue) → LaidOut b (Ok l) d → Leaves a new (catalogue_typed d text old)
        go (refused x) w = absurd w
        go (accepted C) w = f C w

    pub text_long : typed_limit < length text → Leaves (Refused text_misspelled) old (typed_of b text old)
    text_long m = of_catalogue (Refused text_misspelled) old (λ C w. rw (lt-leb (length text) typed_limit m))

    pub text_typed_lem : length text ≤ typed_limit → (a : Answer) (new : List ℕ) → LeavesFor (take l.columns l.tags) a new text old → Leaves a new (typed_of b text old)
    text_typed_lem short a new v = of_catalogue a new (λ C w.
        let t : take l.columns l.tags ≡ tags_of C = laid_tags w in
        let e : written (packed a) new ≡ text_typed C (question_of (tags_of C) text) old = rw t at (v C (sym t)) in
        rw (le-leb (length text) typed_limit short) e)

-- THE TEXT
module _ (tags text old : List ℕ) where
  pub text_misspelled_lem : question_of tags text ≡ misspelled → LeavesFor tags (Refused text_misspelled) old text old
  text_misspelled_lem e = λ C t. rw e

  pub text_read : {size : ℕ} {own : List ℕ} (a : Answer) (new : List ℕ) → QuestionTo (question_of tags text) size own
      → Leaves a new (question_typed (decode_tagged tags (take size own)) (take size own) old) → LeavesFor tags a new text old
  unfolding decode_query
  text_read {size} {own} a new Q v =
      let e : question_of tags text ≡ typed (take size own) = rw (sym Q.front.begins) at Q.gives in
      λ C t. rw (e, t) v

-- a question in a table of its own is short enough for the word
pub question_few : {size : ℕ} {own : List ℕ} {whole : Typed} → QuestionTo whole size own → length own < 2 ^ 24 → length (take size own) < 2 ^ 24
question_few {size} {own} Q e = omega (arith, length-take-le size own Q.front.inside, Q.front.inside)
