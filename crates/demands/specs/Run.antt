-- A whole run: the word and the three lent tables afterwards, for every input.
use Rattle.std.specs.Prelude.{ℕ, ◌+◌, ◌*◌, ◌^◌, Bool, ◌&&◌, List, [], ◌∷◌, ◌++◌, length, leb, ltb, eqb}
use Rattle.fields.specs.Decoded.{Decoded, refused, accepted}
use Rattle.fields.specs.Numbers.{number_at, bytes_of}
use Rattle.strategy.specs.Order.{is_order}
use Rattle.fields.specs.Output.{put_front, put_at}
use Rattle.bitmaps.specs.Bitmap.{bytes_for, bitmap, bitmaps, ones_in}
use Rattle.task.specs.Task.{Task, is_selected, is_probed}
use Rattle.task.specs.Input.{Input, decode_input}
use Rattle.answers.specs.Answer.{Refused, Accepted}
use Rattle.answers.specs.Word.{packed}
use Rattle.answers.specs.Refusals.{not_order, table_too_short, no_such_reader, tally_refused}
use Rattle.answers.specs.Checks.{Checks, checked}

-- what a run and a copy are asked: the bytes of a catalogue, a question and an order
pub record Request : Type 0 where
  pub catalogue : List ℕ
  pub question : List ℕ
  pub order : List ℕ

-- what a run is given: the request, its reader (order 7), and the three tables that it is lent to write
pub record Lent : Type 0 where
  pub request : Request
  pub reader : ℕ
  pub listed : List ℕ
  pub looks : List ℕ
  pub tally : List ℕ

abbrev pub request : (catalogue question order : List ℕ) → Request
request b q order = record { catalogue = b; question = q; order = order }

abbrev pub lent : (catalogue question order : List ℕ) → (reader : ℕ) → (listed looks tally : List ℕ) → Lent
lent b q order reader listed looks tally =
    record { request = request b q order; reader = reader; listed = listed; looks = looks; tally = tally }

-- what a run leaves: the packed word, the listed table, the looks table, the tally
pub record Ran : Type 0 where
  pub word : ℕ
  pub listed : List ℕ
  pub looks : List ℕ
  pub tally : List ℕ

abbrev pub ran : ℕ → (listed looks tally : List ℕ) → Ran
ran w listed looks tally = record { word = w; listed = listed; looks = looks; tally = tally }

-- "A refusal gives its number, with zeros for every other result, and alters nothing lent."
abbrev pub refuse : ℕ → (listed looks tally : List ℕ) → Ran
refuse e listed looks tally = ran (packed (Refused e)) listed looks tally

abbrev pub row_count : Input → ℕ
row_count i = i.catalogue.rows

abbrev pub predicate_count : Input → ℕ
predicate_count i = length i.query.predicates

-- what a run works on
abbrev pub task_of : Input → (order : List ℕ) → Task
task_of i order = record { catalogue = i.catalogue; query = i.query; order = order }

-- the listed table: our selection bitmap
unfoldable pub selection : Task → List ℕ
selection T = bitmap (is_selected T) T.catalogue.rows

-- the looks table: our probe bitmaps
unfoldable pub probe_bitmaps : Task → List ℕ
probe_bitmaps T = bitmaps (is_probed T) (length T.query.predicates) T.catalogue.rows

-- "The found count is the number of ones in the listed table, the look count that of the looks table"
abbrev pub found_count : Task → ℕ
found_count T = ones_in (selection T)

abbrev pub look_count : Task → ℕ
look_count T = ones_in (probe_bitmaps T)

-- order 7: "The lent tally becomes sixteen numbers of eight bytes, and a run names its reader, 0 to 15."
abbrev pub counter_size : ℕ
counter_size = 8

abbrev pub reader_limit : ℕ
reader_limit = 16

abbrev pub tally_size : ℕ
tally_size = reader_limit * counter_size

-- where a reader's number stands, and that number
abbrev pub counter_place : (reader : ℕ) → ℕ
counter_place reader = reader * counter_size

abbrev pub counter_at : (tally : List ℕ) → (reader : ℕ) → ℕ
counter_at tally reader = number_at tally (counter_place reader) counter_size

-- "Only that reader's number grows.": by the look count, document 01's "a run adds its look count to it"
abbrev pub tally_after : (tally : List ℕ) → (reader look_count_lem : ℕ) → List ℕ
tally_after tally reader k = put_at (counter_place reader) (bytes_of counter_size (counter_at tally reader + k)) tally

-- tables of so many bytes hold a line of this size, and one for each of n predicates
abbrev pub tables_fit : (n size : ℕ) → (listed looks : ℕ) → Bool
tables_fit n size listed looks = leb size listed && leb (n * size) looks

-- the tally has its size, and this reader's sum fits eight bytes
abbrev pub tally_fits : (tally : List ℕ) → (reader look_count_lem : ℕ) → Bool
tally_fits tally reader k = eqb (length tally) tally_size && ltb (counter_at tally reader + k) (2 ^ 64)

-- order 7: "24, reader over 15"
abbrev pub reader_checks : (reader : ℕ) → Checks
reader_checks reader = (no_such_reader, ltb reader reader_limit) ∷ []

-- the checks that need no work: "15, the order is not n bytes holding each number once; 16, a table is too short", and 24 "after 16"
abbrev pub request_checks : (n size : ℕ) → (order : List ℕ) → (reader listed looks : ℕ) → Checks
request_checks n size order reader listed looks =
    (not_order, is_order n order) ∷ (table_too_short, tables_fit n size listed looks) ∷ reader_checks reader

-- and the one that needs the count: "Refusal 17 is for a tally not of 128 bytes or a sum too large for this reader"
abbrev pub tally_checks : (tally : List ℕ) → (reader look_count_lem : ℕ) → Checks
tally_checks tally reader k = (tally_refused, tally_fits tally reader k) ∷ []

abbrev pub run_checks : Input → Lent → Checks
run_checks i l =
    request_checks (predicate_count i) (bytes_for (row_count i)) l.request.order l.reader (length l.listed) (length l.looks)
    ++ tally_checks l.tally l.reader (look_count (task_of i l.request.order))

-- an accepted run: the two tables go out, their ones are its counts, and its reader's number gains the looks
abbrev pub accept_with : (selection probed : List ℕ) → (reader : ℕ) → (listed looks tally : List ℕ) → Ran
accept_with S P reader listed looks tally =
    ran (packed (Accepted (ones_in S) 0 (ones_in P))) (put_front S listed) (put_front P looks) (tally_after tally reader (ones_in P))

abbrev pub accept : Task → Lent → Ran
accept T l = accept_with (selection T) (probe_bitmaps T) l.reader l.listed l.looks l.tally

-- "Running: .. 15, .. 16, .. 17, ..", order 7's 24 between the last two
unfoldable pub run_on : Input → Lent → Ran
run_on i l = checked (run_checks i l) (λ e. refuse e l.listed l.looks l.tally) (accept (task_of i l.request.order) l)

abbrev pub input_then : Decoded Input → Lent → Ran
input_then (refused e) l = refuse e l.listed l.looks l.tally
input_then (accepted i) l = run_on i l

-- "Running: 1 to 14; ..", and order 6's 23
unfoldable pub run_of : Lent → Ran
run_of l = input_then (decode_input l.request.catalogue l.request.question) l
