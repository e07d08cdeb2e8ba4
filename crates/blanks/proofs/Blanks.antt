-- One turn of a block: the rows of its probes that were answered blank.
use Prim.Native.Nat.{ℕ, ◌+◌, ◌*◌, ◌/◌, ◌^◌, ◌<◌}
use native.Mathlib.Omega.{arith}
use mathlib.Core.Path.{◌≡◌, refl, sym, ap, ◌∙◌}
use mathlib.Core.Bool.{Bool, true, false, not, ◌&&◌, cond}
use mathlib.Core.Logic.{◌⊎◌, inl, inr}
use mathlib.Core.List.{List}
use lib.Dec.{ltb}
use lib.ListN.{length, get_or}
use Rattle.bools.specs.Bools.{which, clash, not_true, not_of_true, ltb_lt, ltb_le}
use Rattle.fields.specs.Numbers.{Bytes}
use Rattle.words.specs.Words.{word_at}
use Rattle.predicate.specs.Outcome.{is_blank}
use Rattle.sets.specs.Set.{has, set_minus}
use Rattle.sets.specs.SetLaws.{minus_has, has_high}
use Rattle.sets.specs.Kept.{Sifted}
use Rattle.sets.specs.KeptLaws.{sift_kept}
use Rattle.bitmaps.specs.Table.{line_size, line_bit}
use Rattle.bitmaps.specs.Word.{block_rows, word_size, BlockAt}
use Rattle.gather.proofs.Gathering.{word_bits}
use Rattle.plan.specs.declared.table.Access.{Access}
use Rattle.plan.specs.Plan.{access_at}
use Rattle.access.specs.Access.{RowsIn, HasOutcomesAnyQuery, BlankIs}
use Rattle.task.specs.Task.{Task, predicate_at}
use Rattle.blanks.specs.Blanks.{NoesIn, outcome_on, blank_probe, ProbesAt, HasProbesAt, ProbesOf}

in_word_lem : (due d : ℕ) → due < 2 ^ 64 → has due d ≡ true → d < block_rows
in_word_lem due d small m = go (which (ltb d block_rows))
  where
    go : (ltb d block_rows ≡ true) ⊎ (ltb d block_rows ≡ false) → d < block_rows
    go (inl y) = ltb_lt d block_rows y
    go (inr y) = clash m (has_high block_rows due d small (ltb_le d block_rows y))

-- the words that `rows_of_no` may give
pub noes_all : (due met : ℕ) → NoesIn due met due
noes_all due met = record { within = λ d m. m; no_fewer = λ d m n. m }

pub noes_alone : (due met : ℕ) → NoesIn due met (set_minus due met)
noes_alone due met = record {
  within = λ d m. within (has met d) (has due d) (sym (minus_has due met d) ∙ m);
  no_fewer = λ d m n. minus_has due met d ∙ rw (not_of_true (has met d) n) m;
}
  where
    within : (p q : Bool) → cond p false q ≡ true → q ≡ true
    within true q e = clash e refl
    within false q e = e

-- predicate c, whose words are `due` and `met`; its blanks are sought among `rows`
module _ (b : List ℕ) (plan : List Access) (P M : List ℕ) (c : ℕ) {base due met rows : ℕ} (block : BlockAt base) (bytes : Bytes P) (met-bytes : Bytes M)
    (due-is : due ≡ word_at P (c * line_size + base / 8) word_size) (met-is : met ≡ word_at M (c * line_size + base / 8) word_size) (small : due < 2 ^ 64)
    (N : NoesIn due met rows) where
  due-bits : (d : ℕ) → d < block_rows → has due d ≡ line_bit P c (base + d)
  due-bits = word_bits P bytes block refl due-is

  met-bits : (d : ℕ) → d < block_rows → has met d ≡ line_bit M c (base + d)
  met-bits = word_bits M met-bytes block refl met-is

  module _ (T : Task) (q : List ℕ) (R : ProbesAt T b q plan P M c) where
    due_rows : RowsIn base due T.catalogue.rows
    due_rows d m =
        let k = in_word_lem due d small m in
        R.inside (base + d) (omega (arith, block.whole, block.inside)) (sym (due-bits d k) ∙ m)

    sought_rows : RowsIn base rows T.catalogue.rows
    sought_rows d m = due_rows d (N.within d m)

    -- a blank is a no
    blanks_among : Sifted (λ d. is_blank (outcome_on T (base + d) c)) due rows
    blanks_among = record {
      within = N.within;
      no_fewer = λ d m y.
          N.no_fewer d m
          (ap not (not_true (has met d) (λ h. clash y (R.yes (base + d) (due_rows d m) (sym (met-bits d (in_word_lem due d small m)) ∙ h)))));
    }

    pub blanks_found : (blank : ℕ) → BlankIs b (access_at plan c) base rows blank → (d : ℕ) → d < block_rows → has blank d ≡ blank_probe T P (base + d) c
    blanks_found blank B d k =
        sift_kept blank blanks_among (B q T.catalogue (predicate_at T.query c) R.accessed sought_rows) d
        ∙ ap (λ (x : Bool). x && is_blank (outcome_on T (base + d) c)) (due-bits d k)

  pub has_blanks : HasProbesAt b plan P M c → HasOutcomesAnyQuery b (access_at plan c) base rows
  has_blanks (T, q, R) = (q, (T.catalogue, predicate_at T.query c, R.accessed, sought_rows T q R))

-- the probes of turn i are those of its predicate
pub probes_at : {T : Task} {b q : List ℕ} {plan : List Access} {turns P M : List ℕ} → ProbesOf T b q plan turns P M → {i : ℕ} → i < length turns → ProbesAt T b q plan P M (get_or turns i 0)
probes_at R {i} l = record {
  line = R.lines.inside i l;
  met_line = R.met_lines.inside i l;
  low = R.low i l;
  accessed = R.accessed i l;
  inside = λ row. R.inside i row l;
  yes = λ row. R.yes i row l;
}
