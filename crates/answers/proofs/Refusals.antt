-- What a call gives has room in the word.
use native.Mathlib.Omega.{arith}
use Rattle.std.specs.Prelude.{Ok, Err}
use Rattle.std.specs.declared.result.Result.{Result}
use Rattle.answers.specs.declared.answer.Answer.{Answer as CodeAnswer}
use Rattle.answers.specs.declared.refusal.Refusal.{Refusal}
use Rattle.answers.specs.Refusal.{refusal_number, refusal_numbered}
use Rattle.answers.specs.Answer.{Refused, answer_of}
use Rattle.answers.specs.Word.{FitsWord}

pub refused_fits : (e : Refusal) → FitsWord (Refused (refusal_number e))
refused_fits e = let n = refusal_numbered e in omega arith

pub answer_fits : (a : Result CodeAnswer Refusal) → FitsWord (answer_of a)
answer_fits (Ok a) = let f = a.fits in omega arith
answer_fits (Err e) = refused_fits e
