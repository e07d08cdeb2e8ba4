-- The number of a call's refusal.
use Rattle.std.specs.Prelude.{ℕ, ◌^◌, ◌<◌, Ok, Err}
use Rattle.std.proofs.Common.{arith}
use Rattle.std.specs.declared.result.Result.{Result}
use Rattle.catalogue.specs.Refusal.{refusal_number as catalogue_number, refusal_in_byte}
use Rattle.query.specs.Refusal.{refusal_number as question_number, refusal_number_range}
use Rattle.answers.specs.declared.refusal.Refusal.{Refusal}
use Rattle.answers.specs.declared.refusal.Refusal.TheVariants as refusal
use Rattle.answers.specs.Refusals.{not_order, table_too_short, tally_refused, no_such_row_or_predicate, output_too_short, text_misspelled, typed_output_too_short, no_such_reader}

abbrev pub refusal_number : Refusal → ℕ
refusal_number (refusal.Catalogue e) = catalogue_number e
refusal_number (refusal.Question e) = question_number e
refusal_number refusal.NotOrder = not_order
refusal_number refusal.TableTooShort = table_too_short
refusal_number refusal.TallyRefused = tally_refused
refusal_number refusal.NoSuchRowOrPredicate = no_such_row_or_predicate
refusal_number refusal.OutputTooShort = output_too_short
refusal_number refusal.TextMisspelled = text_misspelled
refusal_number refusal.TypedOutputTooShort = typed_output_too_short
refusal_number refusal.NoSuchReader = no_such_reader

-- not 0, which says that a call is accepted, and within the byte that the word has for it
pub refusal_numbered : (e : Refusal) → (0 < refusal_number e) × (refusal_number e < 2 ^ 8)
refusal_numbered (refusal.Catalogue e) = refusal_in_byte e
refusal_numbered (refusal.Question e) = let r = refusal_number_range e in omega arith
refusal_numbered refusal.NotOrder = omega arith
refusal_numbered refusal.TableTooShort = omega arith
refusal_numbered refusal.TallyRefused = omega arith
refusal_numbered refusal.NoSuchRowOrPredicate = omega arith
refusal_numbered refusal.OutputTooShort = omega arith
refusal_numbered refusal.TextMisspelled = omega arith
refusal_numbered refusal.TypedOutputTooShort = omega arith
refusal_numbered refusal.NoSuchReader = omega arith

-- of what may be refused: "Accepted is 0"
abbrev pub refusal_in : {A : Type 0} → Result A Refusal → ℕ
refusal_in (Ok a) = 0
refusal_in (Err e) = refusal_number e
