-- What the program may print. Which bytes a file holds, and whether it can be read, no contract can say.
use Rattle.std.specs.Prelude.{ℕ, ◌≤◌, List, length}
use Rattle.fields.specs.Numbers.{Bytes}
use Rattle.register.specs.Register.{refused, Printed}
use Rattle.consultation.specs.Consultation.{unreadable, consultation_of}
use Rattle.consult.specs.File.{catalogue_limit, question_limit, order_limit}

-- the register of three files within their limits, or of one that "cannot be opened or read or is longer"
pub data Prints (old : List ℕ) (size : ℕ) (new : List ℕ) : Type 0 where
  of_files : (catalogue question order : List ℕ) → Bytes catalogue → Bytes question
      → length catalogue ≤ catalogue_limit → length question ≤ question_limit → length order ≤ order_limit
      → Printed (consultation_of catalogue question order) old size new → Prints old size new
  of_unreadable : Printed (refused unreadable) old size new → Prints old size new
