-- What is read before an end is the same whatever bytes follow: bytes, numbers and parts and fields of two lists where, from a place on, the second is the first,
-- then more bytes.
use Prim.Native.Nat.{ℕ, ◌+◌, ◌-◌, ◌≤◌, ◌<◌}
use native.Mathlib.Omega.{arith}
use mathlib.Core.Path.{◌≡◌, refl, sym, ap, ◌∙◌}
use mathlib.Core.Bool.{Bool, true, false, cond}
use mathlib.Core.List.{List, ◌++◌}
use lib.ListN.{length, get_or, take, drop, length-drop, get_or-append}
use lib.Seq.{take-append-le, drop-append-le, drop-drop}
use lib.Dec.{ltb}
use borrow.Author.Tests.{ltb-false}
use Rattle.std.specs.Prelude.{None}
use Rattle.fields.specs.Numbers.{number_at}
use Rattle.fields.specs.Header.{header_at, some_field, header_size}
use Rattle.fields.proofs.FieldLaws.{FieldAt, header_whole, first_dropped, number_dropped, number_front}

pub record Follows (b b' : List ℕ) (from : ℕ) : Type 0 where
  pub tail : List ℕ
  pub dropped : drop from b' ≡ drop from b ++ tail

pub appended : (b tail : List ℕ) → Follows b (b ++ tail) 0
appended b tail = record { tail = tail; dropped = refl }

module _ {b b' : List ℕ} {from : ℕ} (follows : Follows b b' from) where
  drop_front : (at : ℕ) → from ≤ at → at ≤ length b → drop at b' ≡ drop at b ++ follows.tail
  drop_front at f l =
      let z : from + (at - from) ≡ at = omega arith in
      let d : (s : List ℕ) → drop (at - from) (drop from s) ≡ drop at s = λ s. drop-drop (at - from) from s ∙ ap (λ n. drop n s) z in
      sym (d b') ∙ ap (drop (at - from)) follows.dropped ∙ drop-append-le (at - from) (drop from b) follows.tail (omega (arith, length-drop from b))
      ∙ ap (λ s. s ++ follows.tail) (d b)

  pub part_same : (start stop : ℕ) → from ≤ start → start ≤ stop → stop ≤ length b → take (stop - start) (drop start b') ≡ take (stop - start) (drop start b)
  part_same start stop f s w =
      ap (take (stop - start)) (drop_front start f (omega arith)) ∙ take-append-le (stop - start) (drop start b) follows.tail (omega (arith, length-drop start b))

  byte_same : (at : ℕ) → from ≤ at → at < length b → get_or b' at 0 ≡ get_or b at 0
  byte_same at f l =
      first_dropped b' at ∙ ap (λ s. get_or s 0 0) (drop_front at f (omega arith)) ∙ get_or-append (drop at b) follows.tail 0 0 (omega (arith, length-drop at b))
      ∙ sym (first_dropped b at)

  number_same : (at w : ℕ) → from ≤ at → at + w ≤ length b → number_at b' at w ≡ number_at b at w
  number_same at w f l =
      number_dropped b' at w ∙ ap (λ s. number_at s 0 w) (drop_front at f (omega arith)) ∙ number_front (drop at b) follows.tail 0 w (omega (arith, length-drop at b))
      ∙ sym (number_dropped b at w)

  pub header_same : (at end : ℕ) → from ≤ at → end ≤ length b → header_at b' at end ≡ header_at b at end
  unfolding header_at
  header_same at end f l = go (ltb (end - at) header_size) refl
    where
      go : (x : Bool) → ltb (end - at) header_size ≡ x
          → cond x None (cond (ltb (end - (at + header_size)) (number_at b' (at + 1) 2)) None (some_field (get_or b' at 0) (at + header_size) (at + header_size + number_at b' (at + 1) 2)))
          ≡ cond x None (cond (ltb (end - (at + header_size)) (number_at b (at + 1) 2)) None (some_field (get_or b at 0) (at + header_size) (at + header_size + number_at b (at + 1) 2)))
      go true e = refl
      go false e =
          let k : header_size ≤ end - at = ltb-false _ _ e in
          rw (number_same (at + 1) 2 (omega arith) (omega arith), byte_same at f (omega arith))

  -- a field that is whole is the same up to a farther end
  pub header_farther : {at end tag start stop : ℕ} → FieldAt b at end tag start stop → from ≤ at → end ≤ length b → (far : ℕ) → end ≤ far → header_at b' at far ≡ some_field tag start stop
  header_farther {at} s f l far m =
      let g = s.begins in
      let z = s.sized in
      let w = s.within in
      let n : number_at b' (at + 1) 2 ≡ number_at b (at + 1) 2 = number_same (at + 1) 2 (omega arith) (omega arith) in
      header_whole b' at far (omega arith) ∙ rw (byte_same at f (omega arith) ∙ s.tagged, n, ← g, ← z)
