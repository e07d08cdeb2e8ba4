-- What is read is a spelling, and the bytes are its tree's: from each member on, the machine has taken a tree's spelling and goes on with the tree's bytes.
use Prim.Native.Nat.{ℕ, zero, suc, ◌<◌}
use native.Mathlib.Omega.{arith}
use mathlib.Core.Path.{◌≡◌, refl, sym, ap, ◌∙◌, subst}
use mathlib.Core.Bool.{Bool, true, false}
use mathlib.Core.List.{List, [], ◌∷◌, ◌++◌, append_assoc, append-nil}
use lib.ListN.{length}
use lib.Dec.{eqb}
use Rattle.bools.specs.Bools.{eqb_eq}
use Rattle.fields.specs.Header.{field_of}
use Rattle.query.specs.Format.{predicate_tag}
use Rattle.query.specs.Encode.{group_tag, encode, encodes}
use Rattle.strategy.specs.Tree.{Tree, leaf, group, Forest, none, more, NonEmpties, EachLeaves}
use Rattle.syntax.specs.Spelling.{group_word, closing, comma, spelling, spellings, others, PayloadTypable, Typable}
use Rattle.syntax.specs.Parsed.{Parsed, wrong, parsed, Stripped, absent, stripped, strip, stripped_then}
use Rattle.syntax.specs.Conditions.{condition_ahead}
use Rattle.syntax.specs.Machine.{misspelled, typed, Frame, opened, join_to, closed_with, condition_then, if_so, start, after, question_of}
use Rattle.syntax.proofs.ParsedLaws.{strip_sound}
use Rattle.syntax.proofs.ConditionLaws.{condition_sound}

module _ (tags q : List ℕ) where
  -- a member stands at the text's front, and with fewer steps left the rest gives the question
  pub record MemberTaken (k : ℕ) (s : List Frame) (text : List ℕ) : Type 0 where
    pub tree : Tree (List ℕ)
    pub rest : List ℕ
    pub left : ℕ
    pub typable : Typable tags tree
    pub spelled : text ≡ spelling tree ++ rest
    pub fewer : left < k
    pub goes : after left tags (encode tree) s rest ≡ typed q

  -- behind a member stand the others of its group, and with fewer steps left the rest behind the group gives the question
  pub record OthersTaken (k : ℕ) (m : List ℕ) (f : Frame) (s : List Frame) (text : List ℕ) : Type 0 where
    pub forest : Forest (List ℕ)
    pub rest : List ℕ
    pub left : ℕ
    pub typable : NonEmpties forest × EachLeaves (PayloadTypable tags) forest
    pub spelled : text ≡ others forest ++ (closing ∷ rest)
    pub fewer : left < k
    pub goes : after left tags (closed_with f (m ++ encodes forest)) s rest ≡ typed q

  -- a member and the others of its group
  both_spelled : (t : Tree (List ℕ)) (g : Forest (List ℕ)) (rest' : List ℕ) {text rest : List ℕ} → text ≡ spelling t ++ rest → rest ≡ others g ++ (closing ∷ rest')
      → text ≡ (spelling t ++ others g) ++ (closing ∷ rest')
  both_spelled t g rest' e e' = e ∙ ap (λ (l : List ℕ). spelling t ++ l) e' ∙ sym (append_assoc (spelling t) (others g) (closing ∷ rest'))

  -- an opened group, from its first member and the others
  opened_sound : (b : Bool) {k : ℕ} {s : List Frame} {text : List ℕ} (F : MemberTaken k (opened b s) text)
      → OthersTaken F.left (encode F.tree) (record { settling = b; done = [] }) s F.rest → MemberTaken (suc k) s (group_word b ++ text)
  unfolding spelling encode
  opened_sound b {s = s} {text} F G =
      let f : Forest (List ℕ) = more F.tree G.forest in
      record {
        tree = group b f;
        rest = G.rest;
        left = G.left;
        typable = ((tt, (F.typable.0, G.typable.0)), (F.typable.1, G.typable.1));
        spelled = ap (λ (l : List ℕ). group_word b ++ l) (both_spelled F.tree G.forest G.rest F.spelled G.spelled ∙ sym (append_assoc (spellings f) (closing ∷ []) G.rest))
            ∙ sym (append_assoc (group_word b) (spellings f ++ (closing ∷ [])) G.rest);
        fewer = omega (arith, F.fewer, G.fewer);
        goes = G.goes;
      }

  comma_sound : {k : ℕ} {m : List ℕ} {f : Frame} {s : List Frame} {text : List ℕ} (F : MemberTaken k (join_to f m ∷ s) text)
      → OthersTaken F.left (encode F.tree) (join_to f m) s F.rest → OthersTaken (suc k) m f s (comma ∷ text)
  unfolding spelling encode
  comma_sound {m = m} {f} {s} F G = record {
    forest = more F.tree G.forest;
    rest = G.rest;
    left = G.left;
    typable = ((F.typable.0, G.typable.0), (F.typable.1, G.typable.1));
    spelled = ap (λ (l : List ℕ). comma ∷ l) (both_spelled F.tree G.forest G.rest F.spelled G.spelled);
    fewer = omega (arith, F.fewer, G.fewer);
    goes = ap (λ (l : List ℕ). after G.left tags (field_of (group_tag f.settling) l) s G.rest) (sym (append_assoc f.done m (encode F.tree ++ encodes G.forest))) ∙ G.goes;
  }

  mutual
    unfolding start after encode spelling

    start_sound : (b k : ℕ) → k < b → (s : List Frame) (text : List ℕ) → start k tags s text ≡ typed q → MemberTaken k s text
    start_sound zero k l s text h = absurd (omega arith)
    start_sound (suc b) zero l s text h = let z : ◌≡◌ {A = ℕ} 0 1 = cc in absurd (omega arith)
    start_sound (suc b) (suc k) l s text h =
        let group-there : (c : Bool) (r : List ℕ) → strip (group_word c) text ≡ stripped r → start k tags (opened c s) r ≡ typed q → MemberTaken (suc k) s text =
        λ c r e g.
        let F = start_sound b k (omega arith) (opened c s) r g in
        subst (MemberTaken (suc k) s) (sym (strip_sound (group_word c) text r e))
        (opened_sound c F (others_sound b F.left (omega (arith, F.fewer)) (encode F.tree) (record { settling = c; done = [] }) s F.rest F.goes)) in
        let condition-there : (x : Parsed (List ℕ)) → condition_ahead tags text ≡ x → condition_then x (λ payload rest. after k tags (field_of predicate_tag payload) s rest) ≡ typed q
        → MemberTaken (suc k) s text = elim [
          | wrong ↦ λ e g. (let z : ◌≡◌ {A = ℕ} 0 1 = cc in absurd (omega arith))
          | parsed p r ↦ λ e g. (let c = condition_sound tags text p r e in
              record { tree = leaf p; rest = r; left = k; typable = (tt, c.0); spelled = c.1; fewer = omega arith; goes = g })
        ] in
        let go : (x : Stripped) → strip (group_word false) text ≡ x → (y : Stripped) → strip (group_word true) text ≡ y
        → stripped_then x (λ rest. start k tags (opened false s) rest) (stripped_then y (λ rest. start k tags (opened true s) rest)
        (condition_then (condition_ahead tags text) (λ payload rest. after k tags (field_of predicate_tag payload) s rest))) ≡ typed q
        → MemberTaken (suc k) s text = elim [
          | absent ↦ λ e. elim [ absent ↦ λ e' g. condition-there (condition_ahead tags text) refl g | stripped r ↦ λ e' g. group-there true r e' g ]
          | stripped r ↦ λ e y e' g. group-there false r e g
        ] in
        go (strip (group_word false) text) refl (strip (group_word true) text) refl h

    others_sound : (b k : ℕ) → k < b → (m : List ℕ) (f : Frame) (s : List Frame) (text : List ℕ) → after k tags m (f ∷ s) text ≡ typed q → OthersTaken k m f s text
    others_sound zero k l m f s text h = absurd (omega arith)
    others_sound (suc b) zero l m f s text h = let z : ◌≡◌ {A = ℕ} 0 1 = cc in absurd (omega arith)
    others_sound (suc b) (suc k) l m f s [] h = let z : ◌≡◌ {A = ℕ} 0 1 = cc in absurd (omega arith)
    others_sound (suc b) (suc k) l m f s (x ∷ r) h =
        let comma_there : start k tags (join_to f m ∷ s) r ≡ typed q → OthersTaken (suc k) m f s (comma ∷ r) =
        λ g.
        let F = start_sound b k (omega arith) (join_to f m ∷ s) r g in
        comma_sound F (others_sound b F.left (omega (arith, F.fewer)) (encode F.tree) (join_to f m) s F.rest F.goes) in
        let closing-there : after k tags (closed_with f m) s r ≡ typed q → OthersTaken (suc k) m f s (closing ∷ r) =
        λ g. record {
          forest = none;
          rest = r;
          left = k;
          typable = (tt, tt);
          spelled = refl;
          fewer = omega arith;
          goes = ap (λ (l : List ℕ). after k tags (closed_with f l) s r) (append-nil m) ∙ g;
        } in
        let go : (c : Bool) → eqb x comma ≡ c → (d : Bool) → eqb x closing ≡ d
        → if_so c (λ _. start k tags (join_to f m ∷ s) r) (λ _. if_so d (λ _. after k tags (closed_with f m) s r) (λ _. misspelled)) ≡ typed q
        → OthersTaken (suc k) m f s (x ∷ r) = elim [
          | true ↦ λ e d e' g. subst (λ (z : ℕ). OthersTaken (suc k) m f s (z ∷ r)) (sym (eqb_eq x comma e)) (comma_there g)
          | false ↦ λ e. elim [
            | true ↦ λ e' g. subst (λ (z : ℕ). OthersTaken (suc k) m f s (z ∷ r)) (sym (eqb_eq x closing e')) (closing-there g)
            | false ↦ λ e' g. (let z : ◌≡◌ {A = ℕ} 0 1 = cc in absurd (omega arith))
          ]
        ] in
        go (eqb x comma) refl (eqb x closing) refl h

  -- with no group open, nothing stands behind the member, and its bytes are the question
  after_end : (k : ℕ) (m rest : List ℕ) → after k tags m [] rest ≡ typed q → (rest ≡ []) × (q ≡ m)
  unfolding after
  after_end zero m rest h = let z : ◌≡◌ {A = ℕ} 0 1 = cc in absurd (omega arith)
  after_end (suc k) m [] h = (refl, cc)
  after_end (suc k) m (x ∷ r) h = let z : ◌≡◌ {A = ℕ} 0 1 = cc in absurd (omega arith)

pub read_spelling : (tags text q : List ℕ) → question_of tags text ≡ typed q → (t : Tree (List ℕ)) × Typable tags t × (text ≡ spelling t) × (q ≡ encode t)
unfolding question_of
read_spelling tags text q h =
    let n : ℕ = suc (length text) in
    let F = start_sound tags q (suc n) n (omega arith) [] text h in
    let (none_left, same) = after_end tags q F.left (encode F.tree) F.rest F.goes in
    (F.tree, F.typable, F.spelled ∙ ap (λ (r : List ℕ). spelling F.tree ++ r) none_left ∙ append-nil (spelling F.tree), same)
