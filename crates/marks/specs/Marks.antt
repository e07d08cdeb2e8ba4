-- The table in which a run marks its probes, predicate by predicate and block by block.
use Rattle.std.specs.Prelude.{ℕ, ◌+◌, ◌*◌, ◌≤◌, ◌<◌, ◌≡◌, false, ◌⊎◌, List, length}
use Rattle.fields.specs.Numbers.{Bytes}
use Rattle.sets.specs.Set.{has}
use Rattle.bitmaps.specs.Table.{line_size, line_bits, line_bit, HoldsBits}
use Rattle.bitmaps.specs.Word.{block_rows, BlockAt}
use Rattle.query.specs.Format.{predicate_limit}

-- a table of marks: a line for the probes of each predicate and, if it has more lines, then one for its yes
pub record HasMarkLines (table : List ℕ) : Type 0 where
  pub lines : ℕ
  pub size : length table ≡ lines * line_size
  pub enough : predicate_limit ≤ lines
  pub few : lines ≤ 2 * predicate_limit

-- the line for the yes of a predicate
abbrev pub met_line : (c : ℕ) → ℕ
met_line c = predicate_limit + c

abbrev pub HasMetLine : (table : List ℕ) → (c : ℕ) → Type 0
HasMetLine P c = met_line c * line_size < length P

-- predicate c can be marked in the block at `base`
pub record MarkReady (c base : ℕ) (table : List ℕ) : Type 0 where
  pub below : c < predicate_limit
  pub block : BlockAt base
  pub table_lines : HasMarkLines table

-- in the block at `base` the line of c has the due rows and that for its yes, if there is one, the rows of `met`; all else is as it was
pub record Marked (c base due met : ℕ) (before after : List ℕ) : Type 0 where
  pub size : length after ≡ length before
  pub bytes : Bytes before → Bytes after
  pub probes : (d : ℕ) → d < block_rows → line_bit after c (base + d) ≡ has due d
  pub meets : HasMetLine before c → (d : ℕ) → d < block_rows → line_bit after (met_line c) (base + d) ≡ has met d
  pub beside : (k e : ℕ) → e < line_bits → ((k ≡ c) ⊎ (k ≡ met_line c) → (e < base) ⊎ (base + block_rows ≤ e)) → line_bit after k e ≡ line_bit before k e

-- a table of so many lines with no bit set
abbrev pub HasNoBits : (lines : ℕ) → (table : List ℕ) → Type 0
HasNoBits lines T = HoldsBits (λ c e. false) lines T

-- a table of marks with no bit set
pub record HasEmptyMarks (table : List ℕ) : Type 0 where
  pub table_lines : HasMarkLines table
  pub no_bits : HasNoBits table_lines.lines table
