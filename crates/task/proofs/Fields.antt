-- The field of a probe as the code forms it, and its size.
use Prim.Native.Nat.{ℕ}
use mathlib.Core.Path.{◌≡◌, refl}
use mathlib.Core.List.{List, [], ◌∷◌}
use lib.ListN.{length, get_or}
use Rattle.fields.specs.Numbers.{bytes_of}
use Rattle.fields.specs.Header.{field_of}
use Rattle.task.specs.Log.{probe_tag, probe_field_size, probe_field}

-- b is the two bytes of the row
pub probe_bytes : {b : List ℕ} (row c o : ℕ) → b ≡ bytes_of 2 row → probe_tag ∷ 0 ∷ 4 ∷ get_or b 0 0 ∷ get_or b 1 0 ∷ c ∷ o ∷ [] ≡ probe_field row c o
unfolding probe_field field_of bytes_of
probe_bytes row c o e = rw e

pub probe_length : (row c o : ℕ) → length (probe_field row c o) ≡ probe_field_size
unfolding probe_field field_of bytes_of
probe_length row c o = refl
