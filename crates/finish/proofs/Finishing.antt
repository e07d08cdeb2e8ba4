-- The cases of a run's end.
use Prim.Native.Nat.{ℕ, ◌+◌, ◌-◌, ◌^◌, ◌≤◌, ◌<◌}
use native.Mathlib.Omega.{arith}
use mathlib.Core.Path.{◌≡◌}
use mathlib.Core.List.{List}
use lib.ListN.{length}
use borrow.Author.Tests.{eq-eqb, ne_eqb, lt-ltb, le-ltb}
use Rattle.fields.specs.Numbers.{bytes_of}
use Rattle.fields.specs.Output.{put_front, put_at}
use Rattle.bitmaps.specs.Bitmap.{ones_in}
use Rattle.bitmaps.specs.Table.{lines_of}
use Rattle.answers.specs.Answer.{Accepted}
use Rattle.answers.specs.Word.{packed}
use Rattle.answers.specs.Refusals.{tally_refused}
use Rattle.answers.specs.Checks.{checked}
use Rattle.demands.specs.Run.{ran, refuse, counter_size, tally_size, counter_place, counter_at}
use Rattle.finish.specs.Finish.{finished}

module _ (S P : List ℕ) (n size reader : ℕ) (listed looks tally : List ℕ) where
  pub tally_size_wrong : (length tally ≡ tally_size → ⊥) → refuse tally_refused listed looks tally ≡ finished S P n size reader listed looks tally
  unfolding finished checked
  tally_size_wrong ne = rw (ne_eqb (length tally) tally_size ne)

  abbrev lines : List ℕ
  lines = lines_of size P n

  module _ (before looked : ℕ) (whole : length tally ≡ tally_size) (b : before ≡ counter_at tally reader) (l : looked ≡ ones_in lines) where
    pub counter_passed : 18446744073709551615 - before < looked → refuse tally_refused listed looks tally ≡ finished S P n size reader listed looks tally
    unfolding finished checked
    counter_passed h =
        let z : 2 ^ 64 ≤ counter_at tally reader + ones_in lines = omega arith in
        rw (eq-eqb (length tally) tally_size whole, le-ltb (counter_at tally reader + ones_in lines) (2 ^ 64) z)

    pub counter_taken : looked ≤ 18446744073709551615 - before → before ≤ 18446744073709551615
        → (found : ℕ) (listed' looks' tally' : List ℕ) → found ≡ ones_in (lines_of size S 1)
        → listed' ≡ put_front (lines_of size S 1) listed → looks' ≡ put_front lines looks → tally' ≡ put_at (counter_place reader) (bytes_of counter_size (before + looked)) tally
        → ran (packed (Accepted found 0 looked)) listed' looks' tally' ≡ finished S P n size reader listed looks tally
    unfolding finished checked
    counter_taken h k found listed' looks' tally' f g q t =
        let z : counter_at tally reader + ones_in lines < 2 ^ 64 = omega arith in
        rw (eq-eqb (length tally) tally_size whole, lt-ltb (counter_at tally reader + ones_in lines) (2 ^ 64) z, f, g, q, t, b, l)
