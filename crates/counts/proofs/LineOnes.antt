-- The ones of lines: of lines cut in two, of lines behind others, and of the words at one place of seven lines.
use Prim.Native.Nat.{ℕ, ◌+◌, ◌-◌, ◌*◌, ◌≤◌, ◌<◌}
use native.Mathlib.Nat.{add-zero, add_comm, suc-mul, mul-le-mul_left, add-mul}
use native.Mathlib.Numerals.{add-one}
use native.Mathlib.Omega.{arith}
use mathlib.Core.Path.{◌≡◌, refl, sym, ap, ap₂, ◌∙◌}
use mathlib.Core.List.{List}
use lib.ListN.{length, take, drop, length-take}
use lib.Seq.{take-add, drop-drop}
use lib.Count.{ones}
use Rattle.fields.specs.Numbers.{Bytes}
use Rattle.words.specs.Words.{word_at}
use Rattle.bitmaps.specs.Sums.{sum_of, joined}
use Rattle.bitmaps.proofs.SumLaws.{sum_same, sum_added, joined_same, joined_split}
use Rattle.bitmaps.specs.Bitmap.{ones_in}
use Rattle.bitmaps.proofs.OnesLaws.{ones_append, ones_joined}
use Rattle.bitmaps.specs.Table.{line_size, lines_of}
use Rattle.bitmaps.specs.Word.{word_size}
use Rattle.counts.proofs.WordOnes.{ones_word}

-- the first bytes of line c
abbrev front_of : List ℕ → (size c : ℕ) → List ℕ
front_of t size c = take size (drop (c * line_size) t)

abbrev front_ones : List ℕ → (size c : ℕ) → ℕ
front_ones t size c = ones_in (front_of t size c)

module _ (t : List ℕ) where
  -- a front of k bytes and the m behind them
  front_cut : (k m c : ℕ) → front_ones t (k + m) c ≡ front_ones t k c + front_ones (drop k t) m c
  front_cut k m c =
      let line = c * line_size in
      let z : drop k (drop line t) ≡ drop line (drop k t) = drop-drop k line t ∙ ap (λ (p : ℕ). drop p t) (add_comm line k) ∙ sym (drop-drop line k t) in
      ap ones_in (take-add k m (drop line t)) ∙ ones_append (front_of t k c) (take m (drop k (drop line t))) ∙ ap (λ (u : List ℕ). front_ones t k c + ones_in (take m u)) z

  lines_cut : (k m n : ℕ) → ones_in (lines_of (k + m) t n) ≡ ones_in (lines_of k t n) + ones_in (lines_of m (drop k t) n)
  unfolding lines_of
  lines_cut k m n =
      ones_joined (front_of t (k + m)) n
      ∙ sum_same (front_ones t (k + m)) (λ c. front_ones t k c + front_ones (drop k t) m c) n (λ c l. front_cut k m c)
      ∙ sym (ap₂ ◌+◌ (ones_joined (front_of t k) n) (ones_joined (front_of (drop k t) m) n) ∙ sum_added (front_ones t k) (front_ones (drop k t) m) n)

  -- the first m lines, and the n behind them
  lines_behind : (size m n : ℕ) → ones_in (lines_of size t (m + n)) ≡ ones_in (lines_of size t m) + ones_in (lines_of size (drop (m * line_size) t) n)
  unfolding lines_of
  lines_behind size m n =
      ap ones_in (joined_split (front_of t size) m n)
      ∙ ones_append (joined (front_of t size) m) (joined (λ c. front_of t size (m + c)) n)
      ∙ ap (λ (u : List ℕ). ones_in (joined (front_of t size) m) + ones_in u) (joined_same (λ c. front_of t size (m + c)) (front_of (drop (m * line_size) t) size) n (λ c l. behind c))
    where
      behind : (c : ℕ) → front_of t size (m + c) ≡ front_of (drop (m * line_size) t) size c
      behind c = ap (take size) (ap (λ (p : ℕ). drop p t) (add-mul m c line_size) ∙ sym (drop-drop (c * line_size) (m * line_size) t))

  -- the m lines passed, and the n counted behind them
  pub lines_counted : {line sum x : ℕ} (size m n : ℕ) → line ≡ m * line_size → sum ≡ ones_in (lines_of size t m) → x ≡ ones_in (lines_of size (drop line t) n) → sum + x ≡ ones_in (lines_of size t (m + n))
  lines_counted {line} {sum} {x} size m n e s k = rw (s, k, e) (sym (lines_behind size m n))

  -- the words at one place of each line
  words_across : (at n : ℕ) → Bytes t → ((c : ℕ) → c < n → at + c * line_size + word_size ≤ length t) → ones_in (lines_of word_size (drop at t) n) ≡ sum_of (λ c. ones (word_at t (at + c * line_size) word_size)) n
  unfolding lines_of
  words_across at n b f =
      ones_joined (front_of (drop at t) word_size) n
      ∙ sum_same (front_ones (drop at t) word_size) (λ c. ones (word_at t (at + c * line_size) word_size)) n
      (λ c l. ap (λ (u : List ℕ). ones_in (take word_size u)) (drop-drop (c * line_size) at t) ∙ sym (ones_word t b (at + c * line_size) word_size (f c l)))

  pub seven_across : (at : ℕ) → Bytes t → at + 6 * line_size + word_size ≤ length t
      → ones_in (lines_of word_size (drop at t) 7) ≡ ones (word_at t at word_size) + ones (word_at t (at + line_size) word_size) + ones (word_at t (at + 2 * line_size) word_size) + ones (word_at t (at + 3 * line_size) word_size) + ones (word_at t (at + 4 * line_size) word_size) + ones (word_at t (at + 5 * line_size) word_size) + ones (word_at t (at + 6 * line_size) word_size)
  unfolding sum_of
  seven_across at b l = words_across at 7 b (λ c k. omega arith) ∙ rw (add-zero at) (omega arith)

-- the sum and the ones of what is left of seven lines, behind i bytes of each, are the ones of the lines
abbrev pub LeftOfLines : (table : List ℕ) → (line size sum i : ℕ) → Type 0
LeftOfLines table line size sum i = (sum + ones_in (lines_of (size - i) (drop (line + i) table) 7) ≡ ones_in (lines_of size (drop line table) 7)) × (sum ≤ 8 * (7 * i))

-- what is left of n lines: all of them, and a word less of each
module _ (t : List ℕ) (line size n : ℕ) where
  pub left_all : 0 + ones_in (lines_of (size - 0) (drop (line + 0) t) n) ≡ ones_in (lines_of size (drop line t) n)
  left_all = let z : size - 0 ≡ size = omega arith in rw (z, add-zero line) (omega arith)

  pub left_next : (i : ℕ) → i + word_size ≤ size
      → ones_in (lines_of (size - i) (drop (line + i) t) n) ≡ ones_in (lines_of word_size (drop (line + i) t) n) + ones_in (lines_of (size - (i + word_size)) (drop (line + (i + word_size)) t) n)
  left_next i l =
      let z : size - i ≡ word_size + (size - (i + word_size)) = omega arith in
      let y : line + i + word_size ≡ line + (i + word_size) = omega arith in
      rw (z, ← y, ← drop-drop word_size (line + i) t) (lines_cut (drop (line + i) t) word_size (size - (i + word_size)) n)

-- the ones counted in the lines passed by a loop
abbrev pub LinesPassed : (table : List ℕ) → (size sum c : ℕ) → Type 0
LinesPassed table size sum c = (sum ≡ ones_in (lines_of size table c)) × (sum ≤ 8 * (c * size))

pub none_passed : (table : List ℕ) (size : ℕ) → LinesPassed table size 0 0
unfolding lines_of joined ones_in
none_passed table size = (refl, omega arith)

-- of the lines from place p on line c alone, handed on as a part
module _ (table : List ℕ) (size p c start end : ℕ) (l : start ≡ p + c * line_size) (e : end ≡ start + size) where
  pub count_line : (sum x : ℕ) → sum ≡ ones_in (lines_of size (drop p table) c) → x ≡ ones_in (take (end - start) (drop start table)) → sum + x ≡ ones_in (lines_of size (drop p table) (c + 1))
  unfolding lines_of joined
  count_line sum x s k =
      let z : end - start ≡ size = omega arith in
      rw (s, k, z, l, ← drop-drop (c * line_size) p table, add-one c) (sym (ones_append (lines_of size (drop p table) c) (take size (drop (c * line_size) (drop p table)))))

  pub part_short : length (take (end - start) (drop start table)) ≤ size
  part_short = simp length-take (omega arith)

pub lines_next : (c size : ℕ) → (c + 1) * size ≡ c * size + size
lines_next c size = rw (add-one c) (suc-mul c size)

pub lines_small : (size n : ℕ) → size ≤ line_size → n * size ≤ n * line_size
lines_small size n h = mul-le-mul_left n h
