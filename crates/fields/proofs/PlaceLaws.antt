-- A number in its place among a list's bytes: read from them, written to them, and written again.
use Prim.Native.Nat.{ℕ, zero, suc, ◌+◌, ◌^◌, ◌≤◌, ◌<◌}
use native.Mathlib.Omega.{arith}
use mathlib.Core.Path.{◌≡◌, refl, sym, ap, ◌∙◌}
use mathlib.Core.List.{List, ◌++◌, append_assoc}
use lib.ListN.{length, take, drop, take-append-drop}
use lib.Seq.{get_or-take}
use Rattle.fields.specs.Numbers.{number_at, bytes_of, Bytes}
use Rattle.fields.specs.Output.{put_at}
use Rattle.fields.proofs.FieldLaws.{number_dropped, number_read}
use Rattle.fields.proofs.Laws.{length_bytes}
use Rattle.fields.proofs.OutputLaws.{put_there}
use Rattle.fields.proofs.Written.{number_written}

-- a number depends on its own bytes alone
number_taken : (b : List ℕ) (n w : ℕ) → w ≤ n → number_at b 0 w ≡ number_at (take n b) 0 w
unfolding number_at
number_taken b n zero l = refl
number_taken b n (suc w) l = rw (number_taken b n w (omega arith), get_or-take n b (0 + w) 0 (omega arith))

-- a number is that of the bytes in its place
pub number_of_part : (b : List ℕ) (at w : ℕ) → number_at b at w ≡ number_at (take w (drop at b)) 0 w
number_of_part b at w = number_dropped b at w ∙ number_taken (drop at b) w w (omega arith)

-- a number that is written is read again
pub number_put : (at w x : ℕ) (old : List ℕ) → at + w ≤ length old → x < 256 ^ w → number_at (put_at at (bytes_of w x) old) at w ≡ x
number_put at w x old fits l =
    number_read (put_at at (bytes_of w x) old) at w x (drop (at + length (bytes_of w x)) old) l
    (put_there at (bytes_of w x) old (omega arith))

-- what is read, written again
pub put_same : (at w : ℕ) (b : List ℕ) → Bytes b → at + w ≤ length b → put_at at (bytes_of w (number_at b at w)) b ≡ b
put_same at w b bytes fits =
    rw (length_bytes w (number_at b at w)) (append_assoc (take at b) (bytes_of w (number_at b at w)) (drop (at + w) b)
    ∙ ap (λ (rest : List ℕ). take at b ++ rest) (sym (number_written b bytes at w fits)) ∙ take-append-drop at b)
