-- Document 01's text slot: "each a length 0 to 23, the text (any byte values), and zeros to the end".
use Rattle.std.specs.Prelude.{ℕ, zero, suc, ◌+◌, ◌-◌, Bool, true, ◌&&◌, List, [], ◌∷◌, get_or, take, drop, leb, eqb}

-- bytes of a slot, and of its text at most
abbrev pub slot_size : ℕ
slot_size = 24

abbrev pub text_limit : ℕ
text_limit = 23

-- the text of the slot at a place
unfoldable pub text_at : List ℕ → (at : ℕ) → List ℕ
text_at b at = take (get_or b at 0) (drop (at + 1) b)

-- the texts of so many slots from a place on
unfoldable pub texts_at : List ℕ → (at n : ℕ) → List (List ℕ)
texts_at b at zero = []
texts_at b at (suc n) = text_at b at ∷ texts_at b (at + slot_size) n

unfoldable pub zeros_at : List ℕ → (at n : ℕ) → Bool
zeros_at b at zero = true
zeros_at b at (suc n) = eqb (get_or b at 0) 0 && zeros_at b (at + 1) n

-- refusal 5 otherwise: "a slot length over 23 or a non-zero byte after its text"
unfoldable pub valid_slot : List ℕ → (at : ℕ) → Bool
valid_slot b at = leb (get_or b at 0) text_limit && zeros_at b (at + 1 + get_or b at 0) (text_limit - get_or b at 0)

unfoldable pub valid_slots : List ℕ → (at n : ℕ) → Bool
valid_slots b at zero = true
valid_slots b at (suc n) = valid_slot b at && valid_slots b (at + slot_size) n
