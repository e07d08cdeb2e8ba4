-- What `consult` prints: the register of a run of three files.
use Rattle.std.specs.Prelude.{ℕ, ◌*◌, List, replicate}
use Rattle.fields.specs.Decoded.{Decoded, refused, accepted}
use Rattle.catalogue.specs.Format.{row_limit}
use Rattle.query.specs.Format.{predicate_limit}
use Rattle.bitmaps.specs.Bitmap.{bytes_for}
use Rattle.task.specs.Input.{Input, decode_input}
use Rattle.answers.specs.Word.{number_in, first_in, third_in}
use Rattle.demands.specs.Run.{Lent, lent, Ran, row_count, predicate_count, tally_size, run_of}
use Rattle.register.specs.Register as register
use Rattle.register.specs.Writing.{room_for}

-- "19, one cannot be opened or read or is longer"
abbrev pub unreadable : ℕ
unreadable = 19

-- tables long enough for every entry that a catalogue may have and every condition that a question may have
abbrev pub listed_size : ℕ
listed_size = bytes_for row_limit

abbrev pub looks_size : ℕ
looks_size = predicate_limit * listed_size

-- "with the tally at zero"; order 7: "`consult` is reader 0"
abbrev pub lent_by : (catalogue question order : List ℕ) → Lent
lent_by b q order = lent b q order 0 (replicate listed_size 0) (replicate looks_size 0) (replicate tally_size 0)

abbrev pub consultation_run : (catalogue question order : List ℕ) → Ran
consultation_run b q order = run_of (lent_by b q order)

-- the register of a run: its number, its two counts, which are the first and the third result of its word, and its tables
abbrev pub register_of_run : (rows n : ℕ) → Ran → List ℕ
register_of_run rows n r = register.register_of (number_in r.word) (first_in r.word) (third_in r.word) rows n r.listed r.looks

-- "A refusal prints the first line and `refused r`, r its number."; an accepted run's register shows the listed among the catalogue's entries and
-- a line for each of the question's conditions
abbrev pub register_after : Decoded Input → Ran → List ℕ
register_after (refused e) r = register.refused e
register_after (accepted i) r = register_of_run (row_count i) (predicate_count i) r

-- the text for three files that can be read
abbrev pub consultation_of : (catalogue question order : List ℕ) → List ℕ
consultation_of b q order = register_after (decode_input b q) (consultation_run b q order)

-- room for the register of as many entries and conditions
abbrev pub longest : ℕ
longest = room_for row_limit predicate_limit
