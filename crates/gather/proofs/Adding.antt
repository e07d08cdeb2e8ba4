-- A turn added to all rows of a block, one after the other.
use Prim.Native.Nat.{ℕ}
use mathlib.Core.Path.{◌≡◌, sym, ap, ◌∙◌}
use mathlib.Core.List.{List}
use lib.Dec.{ltb}
use Rattle.sets.specs.Set.{below_set}
use Rattle.sets.specs.SetLaws.{has_below}
use Rattle.sets.specs.ChangedLaws.{changed_same}
use Rattle.bitmaps.specs.Word.{block_rows}
use Rattle.gather.specs.Turns.{AddedTo, Added}

-- the rows below d are done, and these are all
pub all_end : (i : ℕ) {d : ℕ} {L N : List ℕ} → AddedTo (λ e. ltb e d) i L N → d ≡ block_rows → Added (below_set block_rows) i L N
all_end i A e = changed_same (λ c. ap (ltb c) e ∙ sym (has_below block_rows c)) A

pub all_of : {word full : ℕ} (i : ℕ) {L N : List ℕ} → word ≡ full → full ≡ below_set block_rows → Added (below_set block_rows) i L N → Added word i L N
all_of i e f A = rw (e ∙ f) A
