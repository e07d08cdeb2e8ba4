-- WHAT THE EXPORTED CALLS PROMISE, for any bytes lent and any numbers: what a call is given, its word, and every lent byte as it leaves it. These are the
-- definitions of which the pages speak. A copy promises `LogGives` of Log.antt, which names the sequence that order 1 leaves open.
use Rattle.std.specs.Prelude.{ℕ, ◌≡◌, List}
use Rattle.answers.specs.Written.{written}
use Rattle.demands.specs.Run.{Lent, ran, run_of}
use Rattle.demands.specs.Typed.{typed_of}
use Rattle.demands.specs.Demands.{catalogue_word, question_word, outcome_word}

-- the check of a catalogue
abbrev pub CatalogueGives : (catalogue : List ℕ) → (word : ℕ) → Type 0
CatalogueGives b w = w ≡ catalogue_word b

-- the check of a question against a catalogue
abbrev pub QuestionGives : (catalogue question : List ℕ) → (word : ℕ) → Type 0
QuestionGives b q w = w ≡ question_word b q

-- one condition worked out at one entry
abbrev pub OutcomeGives : (catalogue question : List ℕ) → (entry condition word : ℕ) → Type 0
OutcomeGives b q entry c w = w ≡ outcome_word b q entry c

-- a run
abbrev pub RunGives : Lent → (word : ℕ) → (listed looks tally : List ℕ) → Type 0
RunGives l w listed looks tally = ran w listed looks tally ≡ run_of l

-- a typed question
abbrev pub TypedGives : (catalogue text output : List ℕ) → (word : ℕ) → (written : List ℕ) → Type 0
TypedGives b text output w new = written w new ≡ typed_of b text output
