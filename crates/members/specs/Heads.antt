-- Column and kind of a predicate as one number, and the predicates that have others.
use Rattle.std.specs.Prelude.{ℕ, ◌+◌, ◌≤◌, ◌<◌, ◌≡◌, List}
use Rattle.words.specs.Words.{word_at}
use Rattle.predicate.specs.Payload.{payload_head}
use Rattle.records.specs.Offsets.{start_at}

abbrev pub head_at : List ℕ → (at : ℕ) → ℕ
head_at b at = word_at b at payload_head

-- h is not that of any of the predicates from `c` up to `n`
abbrev pub OtherHeads : (h : ℕ) → (q offsets : List ℕ) → (c n : ℕ) → Type 0
OtherHeads h q os c n = (d : ℕ) → c ≤ d → d < n → head_at q (start_at os d) ≡ h → ⊥

-- of the first n predicates, c is the last with head h
pub record LastWithHead (h : ℕ) (q offsets : List ℕ) (n c : ℕ) : Type 0 where
  pub inside : c < n
  pub others : OtherHeads h q offsets (c + 1) n
  pub has : head_at q (start_at offsets c) ≡ h
