-- How long a text is: two thirds of the question's bytes at least, so that those of a text that is taken fit their two-byte lengths; and at most
-- 87 bytes for each condition with its comma and 5 for each group around it, so that an accepted question's text is taken.
use Prim.Native.Nat.{ℕ, zero, suc, ◌+◌, ◌*◌, ◌≤◌}
use native.Mathlib.Nat.{mul-add, add-mul}
use native.Mathlib.Omega.{arith}
use mathlib.Core.Path.{◌≡◌}
use mathlib.Core.List.{List, [], ◌∷◌, ◌++◌}
use lib.ListN.{length, length-append}
use Rattle.fields.proofs.FieldLaws.{field_length}
use Rattle.query.specs.Format.{predicate_tag, predicate_limit, depth_limit}
use Rattle.query.specs.Depth.{depth, depths}
use Rattle.query.specs.Encode.{group_tag, encode, encodes}
use Rattle.query.proofs.Lengths.{some_leaves}
use Rattle.strategy.specs.Tree.{Tree, leaf, group, Forest, none, more, size, sizes, NonEmpty, NonEmpties, EachLeaf, EachLeaves}
use Rattle.syntax.specs.Spelling.{closing, spell_payload, spelling, spellings, others, PayloadTypable, Typable}
use Rattle.syntax.proofs.WordLaws.{word_length, others_length}
use Rattle.syntax.proofs.ConditionLaws.{condition_short}

module _ (tags : List ℕ) where
  mutual
    unfolding spelling encode

    tree_within : (t : Tree (List ℕ)) → NonEmpty t → EachLeaf (PayloadTypable tags) t → 2 * length (encode t) ≤ 3 * length (spelling t)
    tree_within (leaf p) n y = omega (arith, field_length predicate_tag p, condition_short tags p y)
    tree_within (group k f) n y =
        omega (
          arith,
          field_length (group_tag k) (encodes f),
          word_length k (spellings f ++ (closing ∷ [])),
          length-append (spellings f) (closing ∷ []),
          others_length f n.0,
          others_within f n.1 y,
        )

    others_within : (f : Forest (List ℕ)) → NonEmpties f → EachLeaves (PayloadTypable tags) f → 2 * length (encodes f) ≤ 3 * length (others f)
    others_within none n y = omega arith
    others_within (more t f) n y =
        omega (
          arith,
          length-append (encode t) (encodes f),
          length-append (spelling t) (others f),
          tree_within t n.0 y.0,
          others_within f n.1 y.1,
        )

  -- a question takes at most one and a half times the bytes of its spelling
  pub bytes_within : (t : Tree (List ℕ)) → Typable tags t → 2 * length (encode t) ≤ 3 * length (spelling t)
  bytes_within t y = tree_within t y.0 y.1

-- a condition that takes at most 86 bytes
abbrev pub ShortCondition : (payload : List ℕ) → Type 0
ShortCondition payload = length (spell_payload payload) ≤ 86

-- the most that a condition takes with its comma and with so many groups around it
abbrev most : (levels : ℕ) → ℕ
most levels = 87 + 5 * levels

mutual
  unfolding spelling size depth

  tree_fits : (t : Tree (List ℕ)) (levels : ℕ) → EachLeaf ShortCondition t → NonEmpty t → depth t ≤ levels → length (spelling t) + 1 ≤ size t * most levels
  tree_fits (leaf p) levels y n d = omega arith
  tree_fits (group k f) zero y n d = absurd (omega arith)
  tree_fits (group k f) (suc levels) y n d =
      let z : most (suc levels) ≡ most levels + 5 = omega arith in
      let m : sizes f * most (suc levels) ≡ sizes f * most levels + sizes f * 5 = rw z (mul-add (sizes f) (most levels) 5) in
      let i = others_fit f levels y n.1 (omega arith) in
      let j = some_leaves f n.0 n.1 in
      rw m (omega (arith, word_length k (spellings f ++ (closing ∷ [])), length-append (spellings f) (closing ∷ []), others_length f n.0))

  others_fit : (f : Forest (List ℕ)) (levels : ℕ) → EachLeaves ShortCondition f → NonEmpties f → depths f ≤ levels → length (others f) ≤ sizes f * most levels
  others_fit none levels y n d = omega arith
  others_fit (more t f) levels y n d =
      let i = tree_fits t levels y.0 n.0 (omega arith) in
      let j = others_fit f levels y.1 n.1 (omega arith) in
      rw (add-mul (size t) (sizes f) (most levels)) (omega (arith, length-append (spelling t) (others f)))

-- 64 * (87 + 8 * 5) = 8,128
pub question_fits : (t : Tree (List ℕ)) → EachLeaf ShortCondition t → NonEmpty t → depth t ≤ depth_limit → size t ≤ predicate_limit → length (spelling t) ≤ 16384
question_fits t y n d s = omega (arith, tree_fits t depth_limit y n d)
