-- What a call that writes one lent output leaves: the packed word and the output.
use Rattle.std.specs.Prelude.{ℕ, List}
use Rattle.answers.specs.Answer.{Refused}
use Rattle.answers.specs.Word.{packed}

pub record Written : Type 0 where
  pub word : ℕ
  pub output : List ℕ

abbrev pub written : ℕ → (output : List ℕ) → Written
written w output = record { word = w; output = output }

-- "A refusal gives its number, with zeros for every other result, and alters nothing lent."
abbrev pub refuse_writing : ℕ → (output : List ℕ) → Written
refuse_writing e output = written (packed (Refused e)) output
