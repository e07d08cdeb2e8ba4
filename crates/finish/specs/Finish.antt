-- How a run ends, from the tables of its own.
use Rattle.std.specs.Prelude.{ℕ, ◌*◌, ◌≤◌, List, length}
use Rattle.bitmaps.specs.Bitmap.{ones_in}
use Rattle.bitmaps.specs.Table.{lines_of}
use Rattle.answers.specs.Checks.{checked}
use Rattle.demands.specs.Run.{Ran, refuse, tally_checks, accept_with}

-- the lent tables are long enough: refusal 16 otherwise
abbrev pub HasRoom : (n size : ℕ) → (listed looks : List ℕ) → Type 0
HasRoom n size listed looks = (size ≤ length listed) × (n * size ≤ length looks)

-- the tables that go out
abbrev pub ended : (selection probed : List ℕ) → (reader : ℕ) → (listed looks tally : List ℕ) → Ran
ended S P reader listed looks tally =
    checked (tally_checks tally reader (ones_in P)) (λ e. refuse e listed looks tally) (accept_with S P reader listed looks tally)

-- are the front of each line of the run's own
unfoldable pub finished : (selected probed : List ℕ) → (n size reader : ℕ) → (listed looks tally : List ℕ) → Ran
finished S P n size reader listed looks tally = ended (lines_of size S 1) (lines_of size P n) reader listed looks tally
