-- Typing a question (order 4): the word and the lent output afterwards, for every input.
use Rattle.std.specs.Prelude.{ℕ, cond, List, [], ◌∷◌, length, leb}
use Rattle.fields.specs.Decoded.{Decoded, refused, accepted}
use Rattle.fields.specs.Output.{put_front}
use Rattle.catalogue.specs.Catalogue.{Catalogue}
use Rattle.catalogue.specs.Decode.{decode_catalogue}
use Rattle.predicate.specs.Payload.{tags_of}
use Rattle.query.specs.Query.{Query}
use Rattle.query.specs.Decode.{decode_query}
use Rattle.syntax.specs.Machine.{typed_limit, Typed, misspelled, typed, question_of}
use Rattle.answers.specs.Answer.{Accepted}
use Rattle.answers.specs.Word.{packed}
use Rattle.answers.specs.Written.{Written, written, refuse_writing}
use Rattle.answers.specs.Refusals.{text_misspelled, typed_output_too_short}
use Rattle.answers.specs.Checks.{Checks, checked}

-- the question's bytes go out to the front, the length written is the third result
abbrev pub accept_typed : (question output : List ℕ) → Written
accept_typed q output = written (packed (Accepted 0 0 (length q))) (put_front q output)

-- "22, the output is too short, last"
abbrev pub typed_checks : (question output : List ℕ) → Checks
typed_checks q output = (typed_output_too_short, leb (length q) (length output)) ∷ []

-- "7 to 14 for those bytes"
abbrev pub question_typed : Decoded Query → (question output : List ℕ) → Written
question_typed (refused e) q output = refuse_writing e output
question_typed (accepted Q) q output = checked (typed_checks q output) (λ e. refuse_writing e output) (accept_typed q output)

-- "21, .. after 1 to 6 and before 7 to 14 for those bytes"; order 6's 23 is with 1 to 6
abbrev pub text_typed : Catalogue → Typed → (output : List ℕ) → Written
text_typed C misspelled output = refuse_writing text_misspelled output
text_typed C (typed q) output = question_typed (decode_query C q) q output

-- "the text is over 16,384 bytes or isn't so spelled"
abbrev pub taken_text : Catalogue → (text : List ℕ) → Typed
taken_text C text = cond (leb (length text) typed_limit) (question_of (tags_of C) text) misspelled

abbrev pub catalogue_typed : Decoded Catalogue → (text output : List ℕ) → Written
catalogue_typed (refused e) text output = refuse_writing e output
catalogue_typed (accepted C) text output = text_typed C (taken_text C text) output

-- "One new call, given a catalogue, reads such a text into question bytes."
unfoldable pub typed_of : (catalogue text output : List ℕ) → Written
typed_of b text output = catalogue_typed (decode_catalogue b) text output
