-- `texts_blank` meets its contract: a slot's head shows its text's length.
use Rattle.catalogue.proofs.Rows.{has_text}
use Rattle.catalogue.specs.Format.{text_tag}
use Rattle.fields.specs.Numbers.{Bytes}
use Rattle.heads.proofs.DueRowLaws.{due_rows}
use Rattle.heads.proofs.Found.{text_size}
use Rattle.heads.specs.Block.{HasDueRows, slot_of, text_of}
use Rattle.heads.specs.Head.{BlankHeadIs, head_passes}
use Rattle.heads.specs.declared.head.Head.{Head}
use Rattle.predicate.specs.Meaning.{text_blank}
use Rattle.sets.specs.Kept.{KeptBy}
use Rattle.sets.specs.KeptLaws.{kept_same}
use Rattle.std.proofs.Common.{ap, sym, ◌∙◌}
use Rattle.std.specs.Prelude.{List, eqb, ℕ, ◌+◌}
use Rattle.scan.proofs.text.texts_blank.Goals as goal

blanks-kept : (b : List ℕ) → Bytes b → (start base due r : ℕ) (k : Head) → HasDueRows b text_tag start base due → BlankHeadIs k → KeptBy (λ d. head_passes b (slot_of start (base + d)) k) due r
    → KeptBy (λ d. text_blank (text_of b start (base + d))) due r
blanks-kept b bytes start base due r k D K =
    kept_same (λ d. head_passes b (slot_of start (base + d)) k) (λ d. text_blank (text_of b start (base + d))) due r
    (λ d m.
    let h = has_text b start (base + d) (D d m) in
    K b (slot_of start (base + d)) bytes ∙ ap (λ (n : ℕ). eqb n 0) (sym (text_size b (slot_of start (base + d)) h.0 h.1)))

pub front_rows-requires : goal.front_rows-requires
front_rows-requires c = c.requires

pub returns : goal.returns
returns c =
    let r = c.args.rows in
    blanks-kept _ r.bytes _ _ _ _ _ (due_rows r c.requires) c.blank_head.ensures c.front_rows.ensures
