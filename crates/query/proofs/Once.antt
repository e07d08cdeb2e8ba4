-- A tree of payloads is determined by its bytes, where every length fits its two bytes: no two trees have one encoding.
use Prim.Native.Nat.{ℕ, ◌/◌, ◌%◌, ◌^◌, ◌<◌}
use native.Mathlib.Omega.{arith}
use mathlib.Core.Path.{◌≡◌, refl, sym, ap, ap₂, ◌∙◌}
use mathlib.Core.Bool.{Bool, true, false}
use mathlib.Core.List.{List, [], ◌++◌, append-nil}
use lib.ListN.{length, get_or, take, drop, length-append}
use lib.Seq.{take_at, drop_at}
use Rattle.fields.specs.Numbers.{bytes_of}
use Rattle.fields.specs.Header.{header_size, field_of}
use Rattle.fields.proofs.FieldLaws.{field_length}
use Rattle.strategy.specs.Tree.{Tree, leaf, group, Forest, none, more}
use Rattle.query.specs.Format.{predicate_tag}
use Rattle.query.specs.Encode.{group_tag, encode, encodes}
use Rattle.query.proofs.DecodeLaws.{some_bytes}

record SameField (a b : ℕ) (p p' rest rest' : List ℕ) : Type 0 where
  pub tags : a ≡ b
  pub payloads : p ≡ p'
  pub rests : rest ≡ rest'

module _ (a b : ℕ) (p p' rest rest' : List ℕ) where
  field_once : length p < 65536 → length p' < 65536 → field_of a p ++ rest ≡ field_of b p' ++ rest' → SameField a b p p' rest rest'
  unfolding field_of bytes_of
  field_once l l' h =
      let high : length p / 256 ^ 1 % 256 ≡ length p' / 256 ^ 1 % 256 = ap (λ (x : List ℕ). get_or x 1 0) h in
      let low : length p / 256 ^ 0 % 256 ≡ length p' / 256 ^ 0 % 256 = ap (λ (x : List ℕ). get_or x 2 0) h in
      let n : length p ≡ length p' = omega arith in
      let e : p ++ rest ≡ p' ++ rest' = ap (drop header_size) h in
      record {
        tags = ap (λ (x : List ℕ). get_or x 0 0) h;
        payloads = sym (take_at p rest (length p) refl) ∙ ap (take (length p)) e ∙ take_at p' rest' (length p) (sym n);
        rests = sym (drop_at p rest (length p) refl) ∙ ap (drop (length p)) e ∙ drop_at p' rest' (length p) (sym n);
      }

group_once : (k j : Bool) → group_tag k ≡ group_tag j → k ≡ j
group_once true true e = refl
group_once true false e = absurd (omega arith)
group_once false true e = absurd (omega arith)
group_once false false e = refl

not_leaf : (k : Bool) → group_tag k ≡ predicate_tag → ⊥
not_leaf true e = omega arith
not_leaf false e = omega arith

-- a payload is shorter than its field
inside : (tag : ℕ) (p : List ℕ) → length (field_of tag p) < 65536 → length p < 65536
inside tag p l = omega (arith, field_length tag p)

mutual
  unfolding encode

  tree_before : (t u : Tree (List ℕ)) (rest rest' : List ℕ) → length (encode t) < 65536 → length (encode u) < 65536 → encode t ++ rest ≡ encode u ++ rest' → (t ≡ u) × (rest ≡ rest')
  tree_before (leaf p) (leaf p') rest rest' l l' h =
      let s = field_once predicate_tag predicate_tag p p' rest rest' (inside predicate_tag p l) (inside predicate_tag p' l') h in (ap leaf s.payloads, s.rests)
  tree_before (leaf p) (group k f) rest rest' l l' h =
      absurd (not_leaf k (sym (field_once predicate_tag (group_tag k) p (encodes f) rest rest' (inside predicate_tag p l) (inside (group_tag k) (encodes f) l') h).tags))
  tree_before (group k f) (leaf p) rest rest' l l' h =
      absurd (not_leaf k (field_once (group_tag k) predicate_tag (encodes f) p rest rest' (inside (group_tag k) (encodes f) l) (inside predicate_tag p l') h).tags)
  tree_before (group k f) (group j g) rest rest' l l' h =
      let s = field_once (group_tag k) (group_tag j) (encodes f) (encodes g) rest rest' (inside (group_tag k) (encodes f) l) (inside (group_tag j) (encodes g) l') h in
      (ap₂ group (group_once k j s.tags) (forest_once f g (inside (group_tag k) (encodes f) l) (inside (group_tag j) (encodes g) l') s.payloads), s.rests)

  forest_once : (f g : Forest (List ℕ)) → length (encodes f) < 65536 → length (encodes g) < 65536 → encodes f ≡ encodes g → f ≡ g
  forest_once none none l l' h = refl
  forest_once none (more t g) l l' h = absurd (omega (arith, ap length h, length-append (encode t) (encodes g), some_bytes t))
  forest_once (more t f) none l l' h = absurd (omega (arith, ap length h, length-append (encode t) (encodes f), some_bytes t))
  forest_once (more t f) (more u g) l l' h =
      let n = length-append (encode t) (encodes f) in
      let n' = length-append (encode u) (encodes g) in
      let s = tree_before t u (encodes f) (encodes g) (omega arith) (omega arith) h in
      ap₂ more s.0 (forest_once f g (omega arith) (omega arith) s.1)

pub tree_once : (t u : Tree (List ℕ)) → length (encode t) < 65536 → encode t ≡ encode u → t ≡ u
tree_once t u l h =
    (tree_before t u [] [] l (omega (arith, ap length h)) (append-nil (encode t) ∙ h ∙ sym (append-nil (encode u)))).0
