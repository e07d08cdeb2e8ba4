-- The log has seven bytes for each probe.
use Prim.Native.Nat.{ℕ, zero, suc, ◌*◌}
use native.Mathlib.Omega.{arith}
use mathlib.Core.Path.{◌≡◌, refl}
use mathlib.Core.List.{List, [], ◌∷◌}
use lib.ListN.{length, length-append}
use Rattle.bitmaps.specs.Sums.{sum_of, joined}
use Rattle.task.specs.Log.{probe_field_size, probe_field, row_fields, log_fields}
use Rattle.task.proofs.Fields.{probe_length}

row_length : (o : ℕ → ℕ) (row : ℕ) (cs : List ℕ) → length (row_fields o row cs) ≡ probe_field_size * length cs
unfolding row_fields
row_length o row [] = refl
row_length o row (c ∷ cs) = omega (arith, length-append (probe_field row c (o c)) (row_fields o row cs), probe_length row c (o c), row_length o row cs)

pub log_length : (o : (row c : ℕ) → ℕ) (s : ℕ → List ℕ) (rows : ℕ) → length (log_fields o s rows) ≡ probe_field_size * sum_of (λ e. length (s e)) rows
unfolding log_fields joined sum_of
log_length o s zero = refl
log_length o s (suc n) = omega (arith, length-append (log_fields o s n) (row_fields (o n) n (s n)), log_length o s n, row_length (o n) n (s n))
