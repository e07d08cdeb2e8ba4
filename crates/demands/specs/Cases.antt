-- Document 01's proved cases P1 to P11: what each says of the written meanings, gathered in one list.
use Rattle.std.specs.Prelude.{ℕ, ◌≡◌, Bool, true, false, List, [], ◌∷◌, ◌++◌, length, replicate}
use Rattle.fields.specs.Decoded.{accepted}
use Rattle.fields.specs.Numbers.{Bytes}
use Rattle.catalogue.specs.Catalogue.{numbers}
use Rattle.catalogue.specs.Decode.{decode_catalogue}
use Rattle.predicate.specs.declared.outcome.Outcome.{Outcome}
use Rattle.predicate.specs.declared.outcome.Outcome.TheVariants.{No, Yes, Blank}
use Rattle.predicate.specs.Meaning.{fold, contains, outcome_of}
use Rattle.strategy.specs.Order.{is_order}
use Rattle.task.specs.Input.{Input, decode_input}
use Rattle.answers.specs.Answer.{Answer, Refused, Accepted}
use Rattle.answers.specs.Word.{packed}
use Rattle.answers.specs.Answers.{catalogue_answer, question_answer}
use Rattle.demands.specs.Run.{lent, Ran, ran, predicate_count, run_of}
use Rattle.demands.specs.Demands.{IsReader}
use Rattle.demands.specs.Parish.{parish, year_blank, both, question, nested}

pub data Case : Type 0 where
  -- checking these bytes as a catalogue gives this
  catalogue_check : (catalogue : List ℕ) → Answer → Case
  -- checking this question against this catalogue gives this
  question_check : (catalogue question : List ℕ) → Answer → Case
  -- any accepted question on this catalogue, run in any order by any reader with any tables and tally, finds 0 with 0 looks and leaves them as they were
  finds_nothing : (catalogue : List ℕ) → Case
  -- a byte folds to this
  folds : (byte folded : ℕ) → Case
  -- a condition of this kind and operand at this number answers this
  number_outcome : (kind : ℕ) → (operand : List ℕ) → (number : ℕ) → Outcome → Case
  -- whether the operand is in the text
  is_in : (operand text : List ℕ) → Bool → Case
  -- the run of catalogue, question and order by a reader, lent these tables and this tally, leaves this
  runs : (catalogue question order : List ℕ) → (reader : ℕ) → (listed looks tally : List ℕ) → Ran → Case

abbrev pub Holds : Case → Type 0
Holds (catalogue_check b a) = catalogue_answer (decode_catalogue b) ≡ a
Holds (question_check b q a) = question_answer (decode_input b q) ≡ a
Holds (finds_nothing b) =
    (q order : List ℕ) (reader : ℕ) (listed looks tally : List ℕ) (i : Input) → decode_input b q ≡ accepted i → is_order (predicate_count i) order ≡ true
    → IsReader reader → Bytes tally → length tally ≡ 128
    → run_of (lent b q order reader listed looks tally) ≡ ran (packed (Accepted 0 0 0)) listed looks tally
Holds (folds x y) = fold x ≡ y
Holds (number_outcome kind o n a) = outcome_of (numbers (n ∷ [])) kind o 0 ≡ a
Holds (is_in o t b) = contains o t ≡ b
Holds (runs b q order reader listed looks tally r) = run_of (lent b q order reader listed looks tally) ≡ r

abbrev pub zeros : ℕ → List ℕ
zeros n = replicate n 0

-- P1 and P2, by reader 0: looks 3, 1, 2 and 2, 2, 3 for conditions 0, 1, 2; entries 0 and 2 listed
abbrev pub p1 : List Case
p1 =
    runs parish question (0 ∷ 1 ∷ 2 ∷ []) 0 (zeros 1) (zeros 3) (zeros 128)
    (ran (packed (Accepted 2 0 6)) (0b101 ∷ []) (0b111 ∷ 0b001 ∷ 0b110 ∷ []) (zeros 7 ++ (6 ∷ []) ++ zeros 120))
    ∷ []

abbrev pub p2 : List Case
p2 =
    runs parish question (2 ∷ 1 ∷ 0 ∷ []) 0 (zeros 1) (zeros 3) (zeros 128)
    (ran (packed (Accepted 2 0 7)) (0b101 ∷ []) (0b011 ∷ 0b011 ∷ 0b111 ∷ []) (zeros 7 ++ (7 ∷ []) ++ zeros 120))
    ∷ []

-- "folding: 65 to 97, 215 to 215, 222 to 254"; order 5: Case P3 now ends "255 to 121"
abbrev pub p3 : List Case
p3 = folds 65 97 ∷ folds 215 215 ∷ folds 222 254 ∷ folds 255 121 ∷ []

-- "kind 0, 1700 to 1799: 1699 no, 1700 yes, 1799 yes, 1800 no"; order 2: "Case P4 now has blank for kind 0 and for kind 128 at a blank"
abbrev pub century : List ℕ
century = 0x00 ∷ 0x00 ∷ 0x06 ∷ 0xA4 ∷ 0x00 ∷ 0x00 ∷ 0x07 ∷ 0x07 ∷ []

abbrev pub p4 : List Case
p4 =
    number_outcome 0 century 1699 No
    ∷ number_outcome 0 century 1700 Yes
    ∷ number_outcome 0 century 1799 Yes
    ∷ number_outcome 0 century 1800 No
    ∷ number_outcome 0 century 4294967295 Blank
    ∷ number_outcome 128 century 4294967295 Blank
    ∷ []

-- ""by" is in "ASHBY", not in "B""
abbrev pub p5 : List Case
p5 = is_in (0x62 ∷ 0x79 ∷ []) (0x41 ∷ 0x53 ∷ 0x48 ∷ 0x42 ∷ 0x59 ∷ []) true ∷ is_in (0x62 ∷ 0x79 ∷ []) (0x42 ∷ []) false ∷ []

-- "empty catalogue: 1"
abbrev pub p6 : List Case
p6 = catalogue_check [] (Refused 1) ∷ []

-- "43 00 03 00 00 01 4E 00 00 is accepted; any accepted question finds 0 with 0 looks"
abbrev pub no_rows : List ℕ
no_rows = 0x43 ∷ 0x00 ∷ 0x03 ∷ 0x00 ∷ 0x00 ∷ 0x01 ∷ 0x4E ∷ 0x00 ∷ 0x00 ∷ []

abbrev pub p7 : List Case
p7 = catalogue_check no_rows (Accepted 0 1 0) ∷ finds_nothing no_rows ∷ []

-- "E 2,049: 3"
abbrev pub p8 : List Case
p8 = catalogue_check (0x43 ∷ 0x00 ∷ 0x03 ∷ 0x08 ∷ 0x01 ∷ 0x01 ∷ []) (Refused 3) ∷ []

-- "nine nested groups: 10"
abbrev pub p9 : List Case
p9 = question_check parish (nested 9 year_blank) (Refused 10) ∷ []

-- "order 00 00 for two conditions: 15"
abbrev pub p10 : List Case
p10 = runs parish both (0 ∷ 0 ∷ []) 0 (zeros 1) (zeros 2) (zeros 128) (ran (packed (Refused 15)) (zeros 1) (zeros 2) (zeros 128)) ∷ []

-- "tally 2^64 − 1 and one look: 17"; order 7: "case P11 sets that reader's number", here reader 5's
abbrev pub one_row : List ℕ
one_row = 0x43 ∷ 0x00 ∷ 0x03 ∷ 0x00 ∷ 0x01 ∷ 0x01 ∷ 0x4E ∷ 0x00 ∷ 0x04 ∷ 0x00 ∷ 0x00 ∷ 0x06 ∷ 0xA5 ∷ []

abbrev pub full_tally : List ℕ
full_tally = zeros 40 ++ replicate 8 0xFF ++ zeros 80

abbrev pub p11 : List Case
p11 = runs one_row year_blank (0 ∷ []) 5 (zeros 1) (zeros 1) full_tally (ran (packed (Refused 17)) (zeros 1) (zeros 1) full_tally) ∷ []

abbrev pub cases : List Case
cases = p1 ++ p2 ++ p3 ++ p4 ++ p5 ++ p6 ++ p7 ++ p8 ++ p9 ++ p10 ++ p11

abbrev pub AllHold : List Case → Type 0
AllHold [] = Unit {0}
AllHold (c ∷ cs) = Holds c × AllHold cs
