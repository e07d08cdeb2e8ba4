-- Every spelling is read, and to its tree's bytes: each step of the machine takes a byte or more, so that the text's length is enough of them.
use Prim.Native.Nat.{ℕ, zero, suc, ◌+◌, ◌-◌, ◌≤◌}
use native.Mathlib.Omega.{arith}
use mathlib.Core.Path.{◌≡◌, refl, sym, ap, ◌∙◌}
use mathlib.Core.Bool.{Bool, true, false}
use mathlib.Core.Logic.{inl, inr}
use mathlib.Core.List.{List, [], ◌∷◌, ◌++◌, append_assoc, append-nil}
use lib.ListN.{length, length-append}
use Rattle.fields.specs.Header.{field_of}
use Rattle.query.specs.Encode.{group_tag, encode, encodes}
use Rattle.strategy.specs.Tree.{Tree, leaf, group, Forest, none, more, HasMember, NonEmpty, NonEmpties, EachLeaf, EachLeaves}
use Rattle.syntax.specs.Spelling.{group_word, closing, spell_payload, spelling, spellings, others, PayloadTypable, Typable}
use Rattle.syntax.specs.Machine.{typed, Frame, opened, join_to, closed_with, start, after, question_of}
use Rattle.syntax.proofs.Follows.{Follows}
use Rattle.syntax.proofs.WordLaws.{word_length, others_length}
use Rattle.syntax.proofs.Steps.{start_group, start_condition, after_comma, after_closing}
use Rattle.syntax.proofs.ConditionLaws.{condition_reads, condition_apart, condition_some}

-- the machine's steps: one at each condition, comma, opening and closing
unfoldable mutual
  steps : Tree (List ℕ) → ℕ
  steps (leaf payload) = 1
  steps (group k f) = suc (stepses f)

  stepses : Forest (List ℕ) → ℕ
  stepses none = 0
  stepses (more t f) = suc (steps t + stepses f)

module _ (tags : List ℕ) where
  mutual
    unfolding steps spelling

    steps_few : (t : Tree (List ℕ)) → NonEmpty t → steps t ≤ length (spelling t)
    steps_few (leaf payload) n = omega (arith, condition_some payload)
    steps_few (group k f) n =
        omega (arith, word_length k (spellings f ++ (closing ∷ [])), length-append (spellings f) (closing ∷ []), others_length f n.0, others_few f n.1)

    others_few : (f : Forest (List ℕ)) → NonEmpties f → stepses f ≤ length (others f)
    others_few none n = omega arith
    others_few (more t f) n = omega (arith, length-append (spelling t) (others f), steps_few t n.0, others_few f n.1)

  follows_others : (f : Forest (List ℕ)) (rest : List ℕ) → Follows (others f ++ (closing ∷ rest))
  unfolding others
  follows_others none rest = inr refl
  follows_others (more t f) rest = inl refl

  mutual
    unfolding spelling encode steps

    read_tree : (t : Tree (List ℕ)) → NonEmpty t → EachLeaf (PayloadTypable tags) t → (n k : ℕ) → n ≡ steps t + k → (s : List Frame) (rest : List ℕ) → Follows rest
        → start n tags s (spelling t ++ rest) ≡ after k tags (encode t) s rest
    read_tree (leaf p) h y zero k e s rest w = absurd (omega arith)
    read_tree (leaf p) h y (suc n) k e s rest w =
        let z : n ≡ k = omega arith in
        start_condition tags n s (spell_payload p ++ rest) p rest (condition_apart false p rest) (condition_apart true p rest) (condition_reads tags p rest y w) ∙ rw z
    read_tree (group b f) h y zero k e s rest w = absurd (omega arith)
    read_tree (group b f) h y (suc n) k e s rest w =
        ap (start (suc n) tags s) (append_assoc (group_word b) (spellings f ++ (closing ∷ [])) rest)
        ∙ start_group tags n b s ((spellings f ++ (closing ∷ [])) ++ rest)
        ∙ ap (start n tags (opened b s)) (append_assoc (spellings f) (closing ∷ []) rest)
        ∙ read_first f h.0 h.1 y n k (omega arith) b s rest

    read_first : (f : Forest (List ℕ)) → HasMember f → NonEmpties f → EachLeaves (PayloadTypable tags) f → (n k : ℕ) → n ≡ stepses f + k → (b : Bool) (s : List Frame) (rest : List ℕ)
        → start n tags (opened b s) (spellings f ++ (closing ∷ rest)) ≡ after k tags (field_of (group_tag b) (encodes f)) s rest
    read_first none m h y n k e b s rest = absurd m
    read_first (more t f) m h y n k e b s rest =
        let z : n ≡ steps t + (stepses f + suc k) = omega arith in
        ap (start n tags (opened b s)) (append_assoc (spelling t) (others f) (closing ∷ rest))
        ∙ read_tree t h.0 y.0 n (stepses f + suc k) z (opened b s) (others f ++ (closing ∷ rest)) (follows_others f rest)
        ∙ read_others f h.1 y.1 (stepses f + suc k) k refl (encode t) (record { settling = b; done = [] }) s rest

    read_others : (f : Forest (List ℕ)) → NonEmpties f → EachLeaves (PayloadTypable tags) f → (n k : ℕ) → n ≡ stepses f + suc k → (m : List ℕ) (r : Frame) (s : List Frame) (rest : List ℕ)
        → after n tags m (r ∷ s) (others f ++ (closing ∷ rest)) ≡ after k tags (closed_with r (m ++ encodes f)) s rest
    read_others none h y zero k e m r s rest = absurd (omega arith)
    read_others none h y (suc n) k e m r s rest = let z : n ≡ k = omega arith in after_closing tags n m r s rest ∙ rw (z, append-nil m)
    read_others (more t f) h y zero k e m r s rest = absurd (omega arith)
    read_others (more t f) h y (suc n) k e m r s rest =
        let z : n ≡ steps t + (stepses f + suc k) = omega arith in
        after_comma tags n m r s ((spelling t ++ others f) ++ (closing ∷ rest))
        ∙ ap (start n tags (join_to r m ∷ s)) (append_assoc (spelling t) (others f) (closing ∷ rest))
        ∙ read_tree t h.0 y.0 n (stepses f + suc k) z (join_to r m ∷ s) (others f ++ (closing ∷ rest)) (follows_others f rest)
        ∙ read_others f h.1 y.1 (stepses f + suc k) k refl (encode t) (join_to r m) s rest
        ∙ ap (λ (l : List ℕ). after k tags (field_of (group_tag r.settling) l) s rest) (append_assoc r.done m (encode t ++ encodes f))

  pub spelling_read : (t : Tree (List ℕ)) → Typable tags t → question_of tags (spelling t) ≡ typed (encode t)
  unfolding question_of after
  spelling_read t y =
      let n : ℕ = suc (length (spelling t)) in
      ap (start n tags []) (sym (append-nil (spelling t)))
      ∙ read_tree t y.0 y.1 n (suc (length (spelling t) - steps t)) (omega (arith, steps_few t y.0)) [] [] tt
