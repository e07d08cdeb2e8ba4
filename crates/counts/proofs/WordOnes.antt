-- The ones of a word are those of its bytes; the ones of what is left of a table, by a byte or a word less.
use Rattle.std.proofs.Common.{ℕ, zero, suc, ◌+◌, ◌*◌, ◌≤◌, ◌<◌, ◌≡◌, List, [], length, take, drop, get_or, sym, ap, ◌∙◌, arith, add-one, suc-mul, zero-mul, length-drop, take_all, drop-cons, drop-drop}
use Rattle.std.proofs.Math.ListN.{take-append-drop, drop_of_length-le}
use Rattle.std.proofs.Math.Seq.{length-take-le}
use Rattle.std.proofs.lemmas.Nat.{ones_cat, ones-le}
use Rattle.std.specs.Int.{w64, from_le_bytes}
use Rattle.std.specs.Int.Count.{ones}
use Rattle.std.specs.Simd.{first_chunks}
use Rattle.fields.proofs.ByteLaws.{bytes_take, bytes_drop}
use Rattle.fields.specs.Numbers.{Bytes}
use Rattle.words.specs.Words.{word_at}
use Rattle.words.proofs.WordLaws.{word_eight}
use Rattle.bitmaps.specs.Bitmap.{ones_in}
use Rattle.bitmaps.proofs.OnesLaws.{ones_append}
use Rattle.bitmaps.specs.Word.{word_size}

-- the bytes passed by a loop: where they end, and the ones counted in them
abbrev pub BytesPassed : (table : List ℕ) → (sum i : ℕ) → Type 0
BytesPassed table sum i = (i ≤ length table) × (sum ≤ 8 * i) × (sum + ones_in (drop i table) ≡ ones_in table)

-- of a word of any width
pub ones_word : (t : List ℕ) → Bytes t → (at k : ℕ) → at + k ≤ length t → ones (word_at t at k) ≡ ones_in (take k (drop at t))
unfolding word_at ones_in
ones_word t b at zero l = omega (arith, ones-le 0 0 (omega arith))
ones_word t b at (suc k) l =
    let w = word_at t (at + 1) k in
    let z : get_or t at 0 + 256 * w ≡ w * 256 + get_or t at 0 = omega arith in
    let h : at < length t = omega arith in
    rw (z, drop-cons t at 0 h, ← add-one at) (omega (arith, ones_cat 8 w (get_or t at 0) (b at), ones_word t b (at + 1) k (omega arith)))

-- the first bytes of a table, and those behind them
ones_parted : (t : List ℕ) (k : ℕ) → ones_in t ≡ ones_in (take k t) + ones_in (drop k t)
ones_parted t k = ap ones_in (sym (take-append-drop k t)) ∙ ones_append (take k t) (drop k t)

-- one byte more
pub byte_next : (t : List ℕ) (i : ℕ) → i < length t → ones_in (drop i t) ≡ ones (get_or t i 0) + ones_in (drop (i + 1) t)
unfolding ones_in
byte_next t i h = rw (add-one, drop-cons t i 0)

-- chunk i of the first n
chunk_at : (k n : ℕ) (t : List ℕ) (i : ℕ) → i < n → get_or (first_chunks k n t) i [] ≡ take k (drop (i * k) t)
chunk_at k zero t i l = absurd (omega arith)
chunk_at k (suc n) t zero l = rw (zero-mul k)
chunk_at k (suc n) t (suc i) l =
    let z : suc i * k ≡ k + i * k = omega (arith, suc-mul i k) in
    rw z (chunk_at k n (drop k t) i (omega arith) ∙ ap (take k) (drop-drop (i * k) k t))

-- eight bytes as std reads them
pub word_read : {x : ℕ} (b : List ℕ) → x ≡ from_le_bytes w64 b → x ≡ word_at b 0 word_size
word_read b e = omega (arith, e, word_eight b 0)

-- one word more
pub word_next : (t : List ℕ) → Bytes t → (n i : ℕ) → i < n → n * word_size ≤ length t
    → ones_in (drop (i * word_size) t) ≡ ones (word_at (get_or (first_chunks word_size n t) i []) 0 word_size) + ones_in (drop ((i + 1) * word_size) t)
word_next t b n i l h =
    let p = i * word_size in
    let chunk = take word_size (drop p t) in
    let long : length chunk ≡ word_size = length-take-le word_size (drop p t) (omega (arith, length-drop p t)) in
    let here : ones (word_at chunk 0 word_size) ≡ ones_in chunk =
    ones_word chunk (bytes_take (drop p t) word_size (bytes_drop t p b)) 0 word_size (omega arith) ∙ ap ones_in (take_all word_size chunk (omega arith)) in
    let z : (i + 1) * word_size ≡ p + word_size = omega arith in
    rw (chunk_at word_size n t i l, here, z, ← drop-drop word_size p t) (ones_parted (drop p t) word_size)

pub none_left : (t : List ℕ) (i : ℕ) → length t ≤ i → ones_in (drop i t) ≡ 0
unfolding ones_in
none_left t i h = rw (drop_of_length-le t h)
