-- The bytes of a payload in the query: each of them, how many, and the operand among them.
use Prim.Native.Nat.{ℕ, zero, suc, ◌+◌, ◌-◌, ◌≤◌, ◌<◌}
use native.Mathlib.Omega.{arith}
use mathlib.Core.Path.{◌≡◌, refl, sym, ap, ◌∙◌}
use mathlib.Core.List.{List, [], ◌∷◌}
use lib.ListN.{length, get_or, take, drop, length-take, length-drop}
use lib.Seq.{get_or-take, get_or-drop, drop-cons, drop-drop, take-nil}
use Rattle.predicate.specs.Payload.{payload_head}
use Rattle.query.specs.Decode.{payload_at}

pub payload_byte : (q : List ℕ) (start end i : ℕ) → i < end - start → get_or (payload_at q start end) i 0 ≡ get_or q (start + i) 0
unfolding payload_at
payload_byte q start end i l = get_or-take (end - start) (drop start q) i 0 l ∙ get_or-drop start q i 0

pub payload_length : (q : List ℕ) (start end : ℕ) → start ≤ end → end ≤ length q → length (payload_at q start end) ≡ end - start
unfolding payload_at
payload_length q start end a b = rw (length-take, length-drop) (omega arith)

pub payload_parts : (payload : List ℕ) → 2 ≤ length payload → payload ≡ get_or payload 0 0 ∷ get_or payload 1 0 ∷ drop 2 payload
payload_parts payload two = drop-cons payload 0 0 (omega arith) ∙ ap (λ l. get_or payload 0 0 ∷ l) (drop-cons payload 1 0 (omega arith))

take_size : (k : ℕ) (l : List ℕ) → take k l ≡ take (length (take k l)) l
take_size zero l = refl
take_size (suc k) [] = refl
take_size (suc k) (x ∷ l) = ap (λ r. x ∷ r) (take_size k l)

drop_two : (k : ℕ) (l : List ℕ) → drop 2 (take (suc (suc k)) l) ≡ take k (drop 2 l)
drop_two k [] = sym (take-nil k)
drop_two k (x ∷ []) = sym (take-nil k)
drop_two k (x ∷ y ∷ l) = refl

module _ (q : List ℕ) (start end : ℕ) (two : start + payload_head ≤ end) where
  pub operand_at : drop payload_head (payload_at q start end) ≡ take (end - (start + payload_head)) (drop (start + payload_head) q)
  unfolding payload_at
  operand_at =
      let z : end - start ≡ suc (suc (end - (start + 2))) = omega arith in
      ap (λ k. drop 2 (take k (drop start q))) z ∙ drop_two (end - (start + 2)) (drop start q)
      ∙ ap (take (end - (start + 2))) (drop-drop 2 start q)

  -- the operand is the bytes of the query from its place on
  pub operand_bytes : drop payload_head (payload_at q start end)
      ≡ take (length (drop payload_head (payload_at q start end))) (drop (start + payload_head) q)
  operand_bytes = rw operand_at (take_size (end - (start + 2)) (drop (start + 2) q))
