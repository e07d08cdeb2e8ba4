-- What a call gives: a refusal by its number, or its results in the order of the call's description; and that of the
-- code's.
use Rattle.std.specs.Prelude.{ℕ, Ok, Err}
use Rattle.std.specs.declared.result.Result.{Result}
use Rattle.answers.specs.declared.answer.Answer.{Answer as CodeAnswer}
use Rattle.answers.specs.declared.refusal.Refusal.{Refusal}
use Rattle.answers.specs.Refusal.{refusal_number}

pub data Answer : Type 0 where
  Refused : (number : ℕ) → Answer
  Accepted : (first second third : ℕ) → Answer

abbrev pub answer_of : Result CodeAnswer Refusal → Answer
answer_of (Ok a) = Accepted a.first a.second a.third
answer_of (Err e) = Refused (refusal_number e)

-- the same where a refusal is its number already
abbrev pub numbered : Result CodeAnswer ℕ → Answer
numbered (Ok a) = Accepted a.first a.second a.third
numbered (Err number) = Refused number
