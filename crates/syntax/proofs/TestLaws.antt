-- What a condition asks is read exactly where its spelling stands: a range, `blank`, a quoted operand.
use Prim.Native.Nat.{ℕ, ◌≤◌}
use native.Mathlib.Omega.{arith}
use mathlib.Core.Path.{◌≡◌, refl, sym, ap, ◌∙◌}
use mathlib.Core.Bool.{Bool, true, false, cond}
use mathlib.Core.Logic.{◌⊎◌, inl, inr}
use mathlib.Core.List.{List, [], ◌∷◌, ◌++◌, append_assoc, append-nil}
use lib.ListN.{length, get_or, drop, drop_of_length-le}
use lib.Dec.{eqb}
use Rattle.bools.specs.Bools.{same?}
use Rattle.fields.specs.Numbers.{bytes_of, Bytes}
use Rattle.fields.specs.Decimal.{decimal}
use Rattle.fields.proofs.Written.{number_written, number_small}
use Rattle.fields.proofs.ByteLaws.{bytes_none, bytes_append, bytes_number}
use Rattle.fields.proofs.FieldLaws.{number_read}
use Rattle.catalogue.specs.Format.{text_tag}
use Rattle.predicate.specs.Kinds.{range_kind, equals_kind, begins_kind, contains_kind, text_blank_kind}
use Rattle.predicate.specs.Meaning.{range_size, low_of, high_of}
use Rattle.syntax.specs.Spelling.{in_word, to_word, blank_word, is_word, starts_word, has_word, quote, spell_bytes, spell_test, blank_kind, TestTypable}
use Rattle.syntax.specs.Parsed.{Parsed, wrong, parsed, parsed_then, Stripped, absent, stripped, strip, stripped_then}
use Rattle.syntax.specs.Conditions.{greatest_number, number_ahead, quoted_ahead, Asked, asked, range_ahead, text_ahead, test_ahead}
use Rattle.syntax.proofs.Follows.{Follows}
use Rattle.syntax.proofs.ParsedLaws.{strip_sound, parsed_parts, stripped_parts}
use Rattle.syntax.proofs.NumberLaws.{NoDigit, number_reads, number_sound}
use Rattle.syntax.proofs.QuotedLaws.{quoted_reads, quoted_sound}

-- THE KINDS

-- the kinds of a quoted operand, one by one
pub text_kinds : (P : ℕ → Type 0) (kind : ℕ) → equals_kind ≤ kind → kind ≤ contains_kind → P equals_kind → P begins_kind → P contains_kind → P kind
text_kinds P kind l m a b c = go (same? kind 2) (same? kind 3)
  where
    go : (kind ≡ 2) ⊎ (kind ≡ 2 → ⊥) → (kind ≡ 3) ⊎ (kind ≡ 3 → ⊥) → P kind
    go (inl e) d = rw e a
    go (inr n) (inl e) = rw e b
    go (inr n) (inr o) = let e : kind ≡ 4 = omega (arith, n, o) in rw e c

pub blank_kinds : (P : ℕ → Type 0) (tags : List ℕ) (column : ℕ) → P 1 → P 5 → P (blank_kind tags column)
blank_kinds P tags column a b = go (eqb (get_or tags column 0) text_tag)
  where
    go : (c : Bool) → P (cond c 5 1)
    go true = b
    go false = a

-- EVERY TEST IS READ

follows_no_digit : (rest : List ℕ) → Follows rest → NoDigit rest
follows_no_digit [] w = tt
follows_no_digit (x ∷ rest) (inl e) = rw e
follows_no_digit (x ∷ rest) (inr e) = rw e

-- the two numbers of a range's operand, written again
range_operand : (o : List ℕ) → Bytes o → length o ≡ range_size → bytes_of 4 (low_of o) ++ bytes_of 4 (high_of o) ≡ o
range_operand o h e =
    let high : drop 4 o ≡ bytes_of 4 (high_of o) ++ drop 8 o = number_written o h 4 4 (omega arith) in
    let low : o ≡ bytes_of 4 (low_of o) ++ drop 4 o = number_written o h 0 4 (omega arith) in
    let none : drop 8 o ≡ [] = drop_of_length-le o {i = 8} (omega arith) in
    sym (low ∙ ap (λ (k : List ℕ). bytes_of 4 (low_of o) ++ k) (high ∙ ap (λ (k : List ℕ). bytes_of 4 (high_of o) ++ k) none ∙ append-nil (bytes_of 4 (high_of o))))

range_reads : (low high : ℕ) (rest : List ℕ) → low ≤ greatest_number → high ≤ greatest_number → Follows rest
    → range_ahead ((decimal low ++ (to_word ++ decimal high)) ++ rest) ≡ parsed (asked range_kind (bytes_of 4 low ++ bytes_of 4 high)) rest
unfolding strip
range_reads low high rest l m w =
    let first : number_ahead greatest_number ((decimal low ++ (to_word ++ decimal high)) ++ rest) ≡ parsed low (to_word ++ (decimal high ++ rest)) =
    ap (number_ahead greatest_number) (append_assoc (decimal low) (to_word ++ decimal high) rest) ∙ number_reads greatest_number low (to_word ++ (decimal high ++ rest)) l refl in
    rw (first, number_reads greatest_number high rest m (follows_no_digit rest w))

text_reads : (kind : ℕ) (o rest : List ℕ) → Bytes o → text_ahead kind (quote ∷ (spell_bytes o ++ rest)) ≡ parsed (asked kind o) rest
unfolding strip
text_reads kind o rest h = rw (quoted_reads o rest h)

module _ (tags : List ℕ) (column : ℕ) (rest : List ℕ) where
  ahead_range : (t : List ℕ) → test_ahead tags column (in_word ++ t) ≡ range_ahead t
  unfolding test_ahead strip
  ahead_range t = refl

  ahead_blank : test_ahead tags column (blank_word ++ rest) ≡ parsed (asked (blank_kind tags column) []) rest
  unfolding test_ahead strip
  ahead_blank = refl

  ahead_is : (t : List ℕ) → test_ahead tags column (is_word ++ t) ≡ text_ahead equals_kind t
  unfolding test_ahead strip
  ahead_is t = refl

  ahead_starts : (t : List ℕ) → test_ahead tags column (starts_word ++ t) ≡ text_ahead begins_kind t
  unfolding test_ahead strip
  ahead_starts t = refl

  ahead_has : (t : List ℕ) → test_ahead tags column (has_word ++ t) ≡ text_ahead contains_kind t
  unfolding test_ahead strip
  ahead_has t = refl

  reads_range : (o : List ℕ) → Bytes o → length o ≡ range_size → Follows rest → test_ahead tags column (spell_test range_kind o ++ rest) ≡ parsed (asked range_kind o) rest
  reads_range o h e w =
      ahead_range ((decimal (low_of o) ++ (to_word ++ decimal (high_of o))) ++ rest)
      ∙ range_reads (low_of o) (high_of o) rest (omega (arith, number_small o h 0 4)) (omega (arith, number_small o h 4 4)) w
      ∙ ap (λ (k : List ℕ). parsed (asked range_kind k) rest) (range_operand o h e)

  reads_blank : (o : List ℕ) → length o ≡ 0 → test_ahead tags column (spell_test (blank_kind tags column) o ++ rest) ≡ parsed (asked (blank_kind tags column) o) rest
  reads_blank [] e = ap (λ (k : List ℕ). test_ahead tags column (k ++ rest)) (blank_kinds (λ k. spell_test k [] ≡ blank_word) tags column refl refl) ∙ ahead_blank
  reads_blank (x ∷ o) e = absurd (omega arith)

  reads_text : (kind : ℕ) (o : List ℕ) → Bytes o → equals_kind ≤ kind → kind ≤ contains_kind → test_ahead tags column (spell_test kind o ++ rest) ≡ parsed (asked kind o) rest
  reads_text kind o h l m =
      text_kinds (λ k. test_ahead tags column (spell_test k o ++ rest) ≡ parsed (asked k o) rest) kind l m
      (ahead_is (quote ∷ (spell_bytes o ++ rest)) ∙ text_reads equals_kind o rest h)
      (ahead_starts (quote ∷ (spell_bytes o ++ rest)) ∙ text_reads begins_kind o rest h)
      (ahead_has (quote ∷ (spell_bytes o ++ rest)) ∙ text_reads contains_kind o rest h)

  pub test_reads : (kind : ℕ) (o : List ℕ) → Bytes o → TestTypable tags column kind o → Follows rest → test_ahead tags column (spell_test kind o ++ rest) ≡ parsed (asked kind o) rest
  test_reads kind o h (inl t) w = rw t.0 (reads_range o h t.1 w)
  test_reads kind o h (inr (inl t)) w = rw t.0 (reads_blank o t.1)
  test_reads kind o h (inr (inr t)) w = reads_text kind o h t.0 t.1

-- WHAT IS READ IS A TEST

-- a test that stands at the front of a text
pub record TestStands (tags : List ℕ) (column : ℕ) (text : List ℕ) (t : Asked) (rest : List ℕ) : Type 0 where
  pub bytes : Bytes t.operand
  pub small : t.kind ≤ text_blank_kind
  pub test : TestTypable tags column t.kind t.operand
  pub spelled : text ≡ spell_test t.kind t.operand ++ rest

module _ (low high : ℕ) (l : low ≤ greatest_number) (m : high ≤ greatest_number) where
  low_back : low_of (bytes_of 4 low ++ bytes_of 4 high) ≡ low
  low_back = number_read (bytes_of 4 low ++ bytes_of 4 high) 0 4 low (bytes_of 4 high) (omega arith) refl

  high_back : high_of (bytes_of 4 low ++ bytes_of 4 high) ≡ high
  unfolding bytes_of
  high_back = number_read (bytes_of 4 low ++ bytes_of 4 high) 4 4 high [] (omega arith) refl

range_length : (low high : ℕ) → length (bytes_of 4 low ++ bytes_of 4 high) ≡ range_size
unfolding bytes_of
range_length low high = refl

-- the text behind `in `: a number, `..`, a number
abbrev Range : (text : List ℕ) (t : Asked) (rest : List ℕ) → Type 0
Range text t rest =
    (low : ℕ) × (high : ℕ) × (low ≤ greatest_number) × (high ≤ greatest_number) × (text ≡ decimal low ++ (to_word ++ (decimal high ++ rest)))
    × (asked range_kind (bytes_of 4 low ++ bytes_of 4 high) ≡ t)

range_parts : (text : List ℕ) (t : Asked) (rest : List ℕ) → range_ahead text ≡ parsed t rest → Range text t rest
range_parts text t rest h = first (parsed_parts (number_ahead greatest_number text) _ t rest h)
  where
    after : (low : ℕ) → List ℕ → Parsed Asked
    after low r = parsed_then (number_ahead greatest_number r) (λ high r. parsed (asked range_kind (bytes_of 4 low ++ bytes_of 4 high)) r)

    third : (low : ℕ) (r r' : List ℕ) → number_ahead greatest_number text ≡ parsed low r → strip to_word r ≡ stripped r'
        → (high : ℕ) × (r'' : List ℕ) × (number_ahead greatest_number r' ≡ parsed high r'') × (parsed (asked range_kind (bytes_of 4 low ++ bytes_of 4 high)) r'' ≡ parsed t rest) → Range text t rest
    third low r r' e f (high, r'', g, k) =
        let a = number_sound greatest_number text low r (omega arith) e in
        let b = number_sound greatest_number r' high r'' (omega arith) g in
        let c : r'' ≡ rest = cc in (
          low,
          high,
          a.0,
          b.0,
          a.1 ∙ ap (λ (k : List ℕ). decimal low ++ k) (strip_sound to_word r r' f ∙ ap (λ (k : List ℕ). to_word ++ k) (b.1 ∙ ap (λ (k : List ℕ). decimal high ++ k) c)),
          cc,
        )

    second : (low : ℕ) (r : List ℕ) → number_ahead greatest_number text ≡ parsed low r → (r' : List ℕ) × (strip to_word r ≡ stripped r') × (after low r' ≡ parsed t rest) → Range text t rest
    second low r e (r', f, g) = third low r r' e f (parsed_parts (number_ahead greatest_number r') _ t rest g)

    first : (low : ℕ) × (r : List ℕ) × (number_ahead greatest_number text ≡ parsed low r) × (stripped_then (strip to_word r) (after low) wrong ≡ parsed t rest) → Range text t rest
    first (low, r, e, f) = second low r e (stripped_parts (strip to_word r) (after low) t rest f)

-- the text behind `is `, `starts `, `has `: bytes in quotes
abbrev Text : (kind : ℕ) (text : List ℕ) (t : Asked) (rest : List ℕ) → Type 0
Text kind text t rest = (o : List ℕ) × Bytes o × (text ≡ (quote ∷ spell_bytes o) ++ rest) × (asked kind o ≡ t)

text_parts : (kind : ℕ) (text : List ℕ) (t : Asked) (rest : List ℕ) → text_ahead kind text ≡ parsed t rest → Text kind text t rest
text_parts kind text t rest h = first (stripped_parts (strip (quote ∷ []) text) _ t rest h)
  where
    second : (r : List ℕ) → strip (quote ∷ []) text ≡ stripped r → (o : List ℕ) × (r' : List ℕ) × (quoted_ahead r ≡ parsed o r') × (parsed (asked kind o) r' ≡ parsed t rest)
        → Text kind text t rest
    second r e (o, r', f, g) =
        let a = quoted_sound r o r' f in
        let c : r' ≡ rest = cc in
        (o, a.0, strip_sound (quote ∷ []) text r e ∙ ap (λ (k : List ℕ). quote ∷ k) (a.1 ∙ ap (λ (k : List ℕ). spell_bytes o ++ k) c), cc)

    first : (r : List ℕ) × (strip (quote ∷ []) text ≡ stripped r) × (parsed_then (quoted_ahead r) (λ o r. parsed (asked kind o) r) ≡ parsed t rest)
        → Text kind text t rest
    first (r, e, f) = second r e (parsed_parts (quoted_ahead r) _ t rest f)

module _ (tags : List ℕ) (column : ℕ) (rest : List ℕ) where
  range_stands : (text : List ℕ) (t : Asked) → range_ahead text ≡ parsed t rest → TestStands tags column (in_word ++ text) t rest
  range_stands text t h = go (range_parts text t rest h)
    where
      go : Range text t rest → TestStands tags column (in_word ++ text) t rest
      go (low, high, l, m, e, f) =
          rw (← f)
          (record {
            bytes = bytes_append (bytes_of 4 low) (bytes_of 4 high) (bytes_number 4 low) (bytes_number 4 high);
            small = omega arith;
            test = inl (refl, range_length low high);
            spelled =
                rw (low_back low high l m, high_back low high l m) (ap (λ (k : List ℕ). in_word ++ k) (e ∙ sym (append_assoc (decimal low) (to_word ++ decimal high) rest)));
          })

  blank_stands : TestStands tags column (blank_word ++ rest) (asked (blank_kind tags column) []) rest
  blank_stands =
      record {
        bytes = bytes_none;
        small = blank_kinds (λ k. k ≤ text_blank_kind) tags column (omega arith) (omega arith);
        test = inr (inl (refl, refl));
        spelled = ap (λ (k : List ℕ). k ++ rest) (sym (blank_kinds (λ k. spell_test k [] ≡ blank_word) tags column refl refl));
      }

  -- a quoted operand behind the word of its kind
  text_stands : (kind : ℕ) (word : List ℕ) → equals_kind ≤ kind → kind ≤ contains_kind → ((o : List ℕ) → spell_test kind o ≡ word ++ (quote ∷ spell_bytes o)) → (text : List ℕ) (t : Asked)
      → text_ahead kind text ≡ parsed t rest → TestStands tags column (word ++ text) t rest
  text_stands kind word l m spell text t h = go (text_parts kind text t rest h)
    where
      go : Text kind text t rest → TestStands tags column (word ++ text) t rest
      go (o, b, e, f) =
          rw (← f)
          (record {
            bytes = b;
            small = omega arith;
            test = inr (inr (l, m));
            spelled =
                ap (λ (k : List ℕ). word ++ k) e ∙ sym (append_assoc word (quote ∷ spell_bytes o) rest) ∙ ap (λ (k : List ℕ). k ++ rest) (sym (spell o));
          })

  pub test_sound : (text : List ℕ) (t : Asked) → test_ahead tags column text ≡ parsed t rest → TestStands tags column text t rest
  unfolding test_ahead
  test_sound text t h =
      go (strip in_word text) refl (strip blank_word text) refl (strip is_word text) refl (strip starts_word text) refl (strip has_word text) refl h
    where
      to : (word r : List ℕ) → strip word text ≡ stripped r → TestStands tags column (word ++ r) t rest → TestStands tags column text t rest
      to word r e s = rw (strip_sound word text r e) s

      go : (a : Stripped) → strip in_word text ≡ a → (b : Stripped) → strip blank_word text ≡ b → (c : Stripped) → strip is_word text ≡ c → (d : Stripped) → strip starts_word text ≡ d
          → (e : Stripped) → strip has_word text ≡ e
          → stripped_then a range_ahead (stripped_then b (λ rest. parsed (asked (blank_kind tags column) []) rest)
          (stripped_then c (text_ahead equals_kind) (stripped_then d (text_ahead begins_kind) (stripped_then e (text_ahead contains_kind) wrong)))) ≡ parsed t rest
          → TestStands tags column text t rest
      go (stripped r) x b y c z d u e v h = to in_word r x (range_stands r t h)
      go absent x (stripped r) y c z d u e v h =
          let f : asked (blank_kind tags column) [] ≡ t = cc in
          let g : r ≡ rest = cc in
          to blank_word r y (rw (g, ← f) blank_stands)
      go absent x absent y (stripped r) z d u e v h = to is_word r z (text_stands equals_kind is_word (omega arith) (omega arith) (λ o. refl) r t h)
      go absent x absent y absent z (stripped r) u e v h = to starts_word r u (text_stands begins_kind starts_word (omega arith) (omega arith) (λ o. refl) r t h)
      go absent x absent y absent z absent u (stripped r) v h = to has_word r v (text_stands contains_kind has_word (omega arith) (omega arith) (λ o. refl) r t h)
      go absent x absent y absent z absent u absent v h = let z : ◌≡◌ {A = ℕ} 0 1 = cc in absurd (omega arith)
