-- A condition is read exactly where its spelling stands, which payloads have one, and how long it is.
use Prim.Native.Nat.{ℕ, ◌+◌, ◌-◌, ◌*◌, ◌≤◌, ◌<◌}
use native.Mathlib.Omega.{arith}
use mathlib.Core.Path.{◌≡◌, refl, sym, ap, ◌∙◌}
use mathlib.Core.Bool.{Bool, true, false, cond}
use mathlib.Core.List.{List, [], ◌∷◌, ◌++◌, append_assoc}
use lib.ListN.{length, length-append, length-drop}
use lib.Dec.{ltb}
use borrow.Author.Tests.{le-ltb, lt-ltb, ltb-true, ltb-false}
use Rattle.fields.specs.Numbers.{Bytes}
use Rattle.fields.specs.Decimal.{decimal}
use Rattle.fields.proofs.ByteLaws.{bytes_cons, bytes_drop}
use Rattle.predicate.specs.Kinds.{opposite_from, text_blank_kind, plain_kind}
use Rattle.predicate.specs.Payload.{column_byte, kind_byte, operand_of, valid_payload}
use Rattle.predicate.proofs.KindLaws.{kind_below, kind_opposite}
use Rattle.predicate.proofs.PayloadLaws.{valid_payload_lem}
use Rattle.query.proofs.PayloadBytes.{payload_parts}
use Rattle.syntax.specs.Spelling.{group_word, not_word, column_word, space, spell_test, spell_payload, TestTypable, PayloadTypable}
use Rattle.syntax.specs.Parsed.{Parsed, wrong, parsed, parsed_then, Stripped, absent, stripped, strip, stripped_then}
use Rattle.syntax.specs.Conditions.{greatest_column, number_ahead, Asked, test_ahead, plain_ahead, condition_ahead}
use Rattle.syntax.proofs.Follows.{Follows}
use Rattle.syntax.proofs.ParsedLaws.{strip_sound, parsed_parts, stripped_parts}
use Rattle.syntax.proofs.NumberLaws.{number_reads, number_sound}
use Rattle.syntax.proofs.TestLaws.{test_reads, TestStands, test_sound}
use Rattle.syntax.proofs.TestLengths.{decimal_some, decimal_few, test_some, test_short, test_few}
use Rattle.syntax.proofs.TestValid.{test_valid}

-- a condition without its `not `
abbrev spell_plain : (column kind : ℕ) → (operand : List ℕ) → List ℕ
spell_plain column kind o = column_word ++ (decimal column ++ (space ++ spell_test kind o))

-- a payload's kind below the opposites, and among them
module _ (p : List ℕ) where
  spell_below : kind_byte p < opposite_from → spell_payload p ≡ spell_plain (column_byte p) (kind_byte p) (operand_of p)
  unfolding spell_payload plain_kind
  spell_below l = rw (lt-ltb (kind_byte p) opposite_from l)

  spell_opposite : opposite_from ≤ kind_byte p → spell_payload p ≡ not_word ++ spell_plain (column_byte p) (kind_byte p - opposite_from) (operand_of p)
  unfolding spell_payload plain_kind
  spell_opposite l = rw (le-ltb (kind_byte p) opposite_from l)

-- EVERY CONDITION IS READ

plain_reads : (tags : List ℕ) (raised column kind : ℕ) (o rest : List ℕ) → column ≤ greatest_column → Bytes o → TestTypable tags column kind o → Follows rest
    → plain_ahead tags raised (spell_plain column kind o ++ rest) ≡ parsed (column ∷ (kind + raised) ∷ o) rest
unfolding plain_ahead strip
plain_reads tags raised column kind o rest l h t w =
    let first : number_ahead greatest_column ((decimal column ++ (space ++ spell_test kind o)) ++ rest) ≡ parsed column (space ++ (spell_test kind o ++ rest)) =
    ap (number_ahead greatest_column) (append_assoc (decimal column) (space ++ spell_test kind o) rest) ∙ number_reads greatest_column column (space ++ (spell_test kind o ++ rest)) l refl in
    rw (first, test_reads tags column rest kind o h t w)

ahead_plain : (tags : List ℕ) (column kind : ℕ) (o rest : List ℕ) → condition_ahead tags (spell_plain column kind o ++ rest) ≡ plain_ahead tags 0 (spell_plain column kind o ++ rest)
unfolding condition_ahead strip
ahead_plain tags column kind o rest = refl

ahead_not : (tags t : List ℕ) → condition_ahead tags (not_word ++ t) ≡ plain_ahead tags opposite_from t
unfolding condition_ahead strip
ahead_not tags t = refl

pub condition_reads : (tags p rest : List ℕ) → PayloadTypable tags p → Follows rest → condition_ahead tags (spell_payload p ++ rest) ≡ parsed p rest
condition_reads tags p rest y w = go (ltb (kind_byte p) opposite_from) refl
  where
    -- the payload from its parts
    whole : (kind : ℕ) → kind ≡ kind_byte p → parsed (column_byte p ∷ kind ∷ operand_of p) rest ≡ parsed p rest
    whole kind e = ap (λ (k : ℕ). parsed (column_byte p ∷ k ∷ operand_of p) rest) e ∙ ap (λ (k : List ℕ). parsed k rest) (sym (payload_parts p y.head))

    reads : (raised kind : ℕ) → plain_kind (kind_byte p) ≡ kind
        → plain_ahead tags raised (spell_plain (column_byte p) kind (operand_of p) ++ rest) ≡ parsed (column_byte p ∷ (kind + raised) ∷ operand_of p) rest
    reads raised kind e =
        plain_reads tags raised (column_byte p) kind (operand_of p) rest (omega (arith, y.bytes 0)) (bytes_drop p 2 y.bytes) (rw e at y.test) w

    go : (b : Bool) → ltb (kind_byte p) opposite_from ≡ b → condition_ahead tags (spell_payload p ++ rest) ≡ parsed p rest
    go true e =
        let l : kind_byte p < 128 = ltb-true (kind_byte p) 128 e in
        ap (λ (k : List ℕ). condition_ahead tags (k ++ rest)) (spell_below p l)
        ∙ ahead_plain tags (column_byte p) (kind_byte p) (operand_of p) rest
        ∙ reads 0 (kind_byte p) (kind_below (kind_byte p) l)
        ∙ whole (kind_byte p + 0) (omega arith)
    go false e =
        let l : 128 ≤ kind_byte p = ltb-false (kind_byte p) 128 e in
        ap (λ (k : List ℕ). condition_ahead tags (k ++ rest)) (spell_opposite p l)
        ∙ ahead_not tags (spell_plain (column_byte p) (kind_byte p - 128) (operand_of p) ++ rest)
        ∙ reads 128 (kind_byte p - 128) (kind_opposite (kind_byte p) l)
        ∙ whole (kind_byte p - 128 + 128) (omega arith)

-- a condition begins with n or c, a group with a
pub condition_apart : (k : Bool) (p rest : List ℕ) → strip (group_word k) (spell_payload p ++ rest) ≡ absent
unfolding strip spell_payload
condition_apart k p rest = go k (ltb (kind_byte p) opposite_from)
  where
    go : (k b : Bool) → strip (group_word k) ((cond b [] not_word ++ spell_plain (column_byte p) (plain_kind (kind_byte p)) (operand_of p)) ++ rest) ≡ absent
    go true true = refl
    go true false = refl
    go false true = refl
    go false false = refl

-- WHAT IS READ IS A CONDITION

-- a condition without its `not ` at the front of a text, with the payload that is read
record PlainStands (tags : List ℕ) (raised : ℕ) (text p rest : List ℕ) : Type 0 where
  column : ℕ
  kind : ℕ
  operand : List ℕ
  column_small : column ≤ greatest_column
  kind_small : kind ≤ text_blank_kind
  bytes : Bytes operand
  test : TestTypable tags column kind operand
  spelled : text ≡ spell_plain column kind operand ++ rest
  payload : (column ∷ (kind + raised) ∷ operand) ≡ p

plain_sound : (tags : List ℕ) (raised : ℕ) (text p rest : List ℕ) → plain_ahead tags raised text ≡ parsed p rest → PlainStands tags raised text p rest
unfolding plain_ahead
plain_sound tags raised text p rest h = first (stripped_parts (strip column_word text) after_c p rest h)
  where
    after_test : (column : ℕ) → Asked → List ℕ → Parsed (List ℕ)
    after_test column t r = parsed (column ∷ (t.kind + raised) ∷ t.operand) r

    after_space : (column : ℕ) → List ℕ → Parsed (List ℕ)
    after_space column r = parsed_then (test_ahead tags column r) (after_test column)

    after_column : (column : ℕ) → List ℕ → Parsed (List ℕ)
    after_column column r = stripped_then (strip space r) (after_space column) wrong

    after_c : List ℕ → Parsed (List ℕ)
    after_c r = parsed_then (number_ahead greatest_column r) after_column

    fourth : (column : ℕ) (t : Asked) (a b c r : List ℕ) → strip column_word text ≡ stripped a → number_ahead greatest_column a ≡ parsed column b → strip space b ≡ stripped c
        → TestStands tags column c t r → after_test column t r ≡ parsed p rest → PlainStands tags raised text p rest
    fourth column t a b c r e f g s h =
        let n = number_sound greatest_column a column b (omega arith) f in
        let k : r ≡ rest = cc in
        let behind : b ≡ space ++ (spell_test t.kind t.operand ++ rest) =
        strip_sound space b c g ∙ ap (λ (l : List ℕ). space ++ l) (s.spelled ∙ ap (λ (l : List ℕ). spell_test t.kind t.operand ++ l) k) in
        record {
          column = column;
          kind = t.kind;
          operand = t.operand;
          column_small = n.0;
          kind_small = s.small;
          bytes = s.bytes;
          test = s.test;
          spelled =
              strip_sound column_word text a e
              ∙ ap (λ (l : List ℕ). column_word ++ l) (n.1 ∙ ap (λ (l : List ℕ). decimal column ++ l) behind ∙ sym (append_assoc (decimal column) (space ++ spell_test t.kind t.operand) rest));
          payload = cc;
        }

    third : (column : ℕ) (a b : List ℕ) → strip column_word text ≡ stripped a → number_ahead greatest_column a ≡ parsed column b
        → (c : List ℕ) × (strip space b ≡ stripped c) × (after_space column c ≡ parsed p rest) → PlainStands tags raised text p rest
    third column a b e f (c, g, h) = go (parsed_parts (test_ahead tags column c) (after_test column) p rest h)
      where
        go : (t : Asked) × (r : List ℕ) × (test_ahead tags column c ≡ parsed t r) × (after_test column t r ≡ parsed p rest) → PlainStands tags raised text p rest
        go (t, r, k, h) = fourth column t a b c r e f g (test_sound tags column r c t k) h

    second : (a : List ℕ) → strip column_word text ≡ stripped a → (column : ℕ) × (b : List ℕ) × (number_ahead greatest_column a ≡ parsed column b) × (after_column column b ≡ parsed p rest)
        → PlainStands tags raised text p rest
    second a e (column, b, f, h) = third column a b e f (stripped_parts (strip space b) (after_space column) p rest h)

    first : (a : List ℕ) × (strip column_word text ≡ stripped a) × (after_c a ≡ parsed p rest) → PlainStands tags raised text p rest
    first (a, e, h) = second a e (parsed_parts (number_ahead greatest_column a) after_column p rest h)

stands_typable : {tags : List ℕ} {raised : ℕ} {text p rest : List ℕ} (s : PlainStands tags raised text p rest) → plain_kind (s.kind + raised) ≡ s.kind → raised ≤ opposite_from
    → PayloadTypable tags p
stands_typable {raised = raised} s plain l =
    let a = s.column_small in
    let b = s.kind_small in
    rw (← s.payload)
    (record {
      bytes = bytes_cons s.column ((s.kind + raised) ∷ s.operand) (omega arith) (bytes_cons (s.kind + raised) s.operand (omega arith) s.bytes);
      head = omega arith;
      test = rw plain s.test;
    })

pub condition_sound : (tags text p rest : List ℕ) → condition_ahead tags text ≡ parsed p rest → PayloadTypable tags p × (text ≡ spell_payload p ++ rest)
unfolding condition_ahead
condition_sound tags text p rest h = go (strip not_word text) refl h
  where
    below : PlainStands tags 0 text p rest → PayloadTypable tags p × (text ≡ spell_payload p ++ rest)
    below s =
        let l = s.kind_small in
        let z : s.kind + 0 ≡ s.kind = omega arith in
        let k : kind_byte p ≡ s.kind = ap kind_byte (sym s.payload) ∙ z in
        let e : spell_payload p ≡ spell_plain s.column s.kind s.operand =
        spell_below p (omega arith) ∙ ap (λ (j : ℕ). spell_plain (column_byte p) j (operand_of p)) k ∙ ap (λ (q : List ℕ). spell_plain (column_byte q) s.kind (operand_of q)) (sym s.payload) in
        (stands_typable s (kind_below (s.kind + 0) (omega arith) ∙ z) (omega arith), s.spelled ∙ ap (λ (q : List ℕ). q ++ rest) (sym e))

    opposite : (r : List ℕ) → strip not_word text ≡ stripped r → PlainStands tags opposite_from r p rest → PayloadTypable tags p × (text ≡ spell_payload p ++ rest)
    opposite r f s =
        let l = s.kind_small in
        let z : s.kind + 128 - 128 ≡ s.kind = omega arith in
        let k : kind_byte p ≡ s.kind + 128 = ap kind_byte (sym s.payload) in
        let j : kind_byte p - 128 ≡ s.kind = omega arith in
        let e : spell_payload p ≡ not_word ++ spell_plain s.column s.kind s.operand =
        spell_opposite p (omega arith) ∙ ap (λ (i : ℕ). not_word ++ spell_plain (column_byte p) i (operand_of p)) j
        ∙ ap (λ (q : List ℕ). not_word ++ spell_plain (column_byte q) s.kind (operand_of q)) (sym s.payload) in (
          stands_typable s (kind_opposite (s.kind + 128) (omega arith) ∙ z) (omega arith),
          strip_sound not_word text r f ∙ ap (λ (q : List ℕ). not_word ++ q) s.spelled ∙ ap (λ (q : List ℕ). q ++ rest) (sym e),
        )

    go : (x : Stripped) → strip not_word text ≡ x → stripped_then x (plain_ahead tags opposite_from) (plain_ahead tags 0 text) ≡ parsed p rest
        → PayloadTypable tags p × (text ≡ spell_payload p ++ rest)
    go absent e g = below (plain_sound tags 0 text p rest g)
    go (stripped r) e g = opposite r e (plain_sound tags opposite_from r p rest g)

-- HOW LONG IT IS

module _ (p : List ℕ) where
  -- `not ` or nothing, `c`, the column's digits, a space, the test
  spell_length : (2 + length (decimal (column_byte p)) + length (spell_test (plain_kind (kind_byte p)) (operand_of p)) ≤ length (spell_payload p))
      × (length (spell_payload p) ≤ 6 + length (decimal (column_byte p)) + length (spell_test (plain_kind (kind_byte p)) (operand_of p)))
  unfolding spell_payload
  spell_length = go (ltb (kind_byte p) opposite_from) (decimal (column_byte p)) (spell_test (plain_kind (kind_byte p)) (operand_of p))
    where
      go : (b : Bool) (c t : List ℕ) → (2 + length c + length t ≤ length (cond b [] not_word ++ (column_word ++ (c ++ (space ++ t)))))
          × (length (cond b [] not_word ++ (column_word ++ (c ++ (space ++ t)))) ≤ 6 + length c + length t)
      go true c t = let e = length-append c (space ++ t) in (omega arith, omega arith)
      go false c t = let e = length-append c (space ++ t) in (omega arith, omega arith)

  pub condition_some : 8 ≤ length (spell_payload p)
  condition_some = omega (arith, spell_length.0, decimal_some (column_byte p), test_some (plain_kind (kind_byte p)) (operand_of p))

-- a condition's field takes at most one and a half times the bytes of its spelling
pub condition_short : (tags p : List ℕ) → PayloadTypable tags p → 2 * (3 + length p) ≤ 3 * length (spell_payload p)
condition_short tags p y =
    let h = y.head in
    let d : length (operand_of p) ≡ length p - 2 = length-drop 2 p in
    omega (arith, (spell_length p).0, decimal_some (column_byte p), test_short tags (column_byte p) (plain_kind (kind_byte p)) (operand_of p) y.test)

-- VALID PAYLOADS

pub valid_typable : (tags p : List ℕ) → Bytes p → valid_payload tags p ≡ true → PayloadTypable tags p
valid_typable tags p b h =
    let v = valid_payload_lem tags p h in
    record { bytes = b; head = v.head; test = (test_valid tags (column_byte p) (plain_kind (kind_byte p)) (operand_of p) v.kind_fits_lem v.operand_fits_lem).0 }

-- "not c15 starts " and 23 bytes in quotes, three for each
pub condition_fits : (tags p : List ℕ) → Bytes p → valid_payload tags p ≡ true → length tags ≤ 16 → length (spell_payload p) ≤ 86
condition_fits tags p b h l =
    let v = valid_payload_lem tags p h in
    let c = v.column_in in
    let t = test_valid tags (column_byte p) (plain_kind (kind_byte p)) (operand_of p) v.kind_fits_lem v.operand_fits_lem in
    omega (arith, (spell_length p).1, decimal_few 2 (column_byte p) (omega arith) (omega arith), test_few tags (column_byte p) (plain_kind (kind_byte p)) (operand_of p) (bytes_drop p 2 b) t.1 t.0)
