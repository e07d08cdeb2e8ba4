-- How long the spelling of a number is, and of what a condition asks.
use Prim.Native.Nat.{ℕ, zero, suc, ◌+◌, ◌*◌, ◌/◌, ◌%◌, ◌^◌, ◌≤◌, ◌<◌}
use native.Mathlib.Omega.{arith}
use mathlib.Core.Path.{◌≡◌}
use mathlib.Core.Bool.{Bool, true, false, cond}
use mathlib.Core.Logic.{inl, inr}
use mathlib.Core.List.{List, [], ◌∷◌, ◌++◌}
use lib.ListN.{length, length-append}
use lib.Dec.{eqb}
use Rattle.fields.specs.Numbers.{Bytes}
use Rattle.fields.specs.Decimal.{digits_of, decimal}
use Rattle.fields.proofs.DecimalLaws.{digits_more, digits_few, decimal_zero, decimal_more}
use Rattle.fields.proofs.Written.{number_small}
use Rattle.slots.specs.Slots.{text_limit}
use Rattle.predicate.specs.Kinds.{range_kind, equals_kind, begins_kind, contains_kind}
use Rattle.predicate.specs.Meaning.{low_of, high_of}
use Rattle.syntax.specs.Spelling.{in_word, to_word, blank_word, is_word, starts_word, has_word, quote, spell_bytes, spell_test, TestTypable}
use Rattle.syntax.proofs.QuotedLaws.{quoted_some, quoted_few}
use Rattle.syntax.proofs.TestLaws.{text_kinds, blank_kinds}

pub decimal_some : (x : ℕ) → 1 ≤ length (decimal x)
decimal_some zero = rw decimal_zero (omega arith)
decimal_some (suc x) = rw (decimal_more (suc x) (omega arith), digits_more (suc x) (omega arith)) (omega (arith, length-append (digits_of (suc x / 10)) ((48 + suc x % 10) ∷ [])))

pub decimal_few : (k x : ℕ) → 1 ≤ k → x < 10 ^ k → length (decimal x) ≤ k
decimal_few k zero p l = rw decimal_zero (omega arith)
decimal_few k (suc x) p l = rw (decimal_more (suc x) (omega arith)) (digits_few k (suc (suc x)) (suc x) l)

range_spelled : (low high : List ℕ) → length (in_word ++ (low ++ (to_word ++ high))) ≡ 5 + (length low + length high)
range_spelled low high = omega (arith, length-append low (to_word ++ high))

pub test_some : (kind : ℕ) (o : List ℕ) → 5 ≤ length (spell_test kind o)
test_some kind o = go (eqb kind range_kind) (eqb kind equals_kind) (eqb kind begins_kind) (eqb kind contains_kind)
  where
    go : (a b c d : Bool)
        → 5 ≤ length (cond a (in_word ++ (decimal (low_of o) ++ (to_word ++ decimal (high_of o))))
        (cond b (is_word ++ (quote ∷ spell_bytes o)) (cond c (starts_word ++ (quote ∷ spell_bytes o)) (cond d (has_word ++ (quote ∷ spell_bytes o)) blank_word))))
    go true b c d = omega (arith, range_spelled (decimal (low_of o)) (decimal (high_of o)))
    go false true c d = omega (arith, quoted_some o)
    go false false true d = omega (arith, quoted_some o)
    go false false false true = omega (arith, quoted_some o)
    go false false false false = omega arith

pub test_short : (tags : List ℕ) (column kind : ℕ) (o : List ℕ) → TestTypable tags column kind o → 1 + 2 * length o ≤ 3 * length (spell_test kind o)
test_short tags column kind o (inl t) =
    let e = t.1 in
    rw t.0 (omega (arith, range_spelled (decimal (low_of o)) (decimal (high_of o)), decimal_some (low_of o), decimal_some (high_of o)))
test_short tags column kind o (inr (inl t)) = let e = t.1 in omega (arith, test_some kind o)
test_short tags column kind o (inr (inr t)) =
    let q = quoted_some o in
    text_kinds (λ k. 1 + 2 * length o ≤ 3 * length (spell_test k o)) kind t.0 t.1 (omega arith) (omega arith) (omega arith)

-- "starts " and 23 bytes, each a backslash and two digits, in quotes
pub test_few : (tags : List ℕ) (column kind : ℕ) (o : List ℕ) → Bytes o → length o ≤ text_limit → TestTypable tags column kind o → length (spell_test kind o) ≤ 78
test_few tags column kind o h l (inl t) =
    let a = decimal_few 10 (low_of o) (omega arith) (omega (arith, number_small o h 0 4)) in
    let b = decimal_few 10 (high_of o) (omega arith) (omega (arith, number_small o h 4 4)) in
    rw t.0 (omega (arith, range_spelled (decimal (low_of o)) (decimal (high_of o))))
test_few tags column kind o h l (inr (inl t)) =
    rw t.0 (blank_kinds (λ k. length (spell_test k o) ≤ 78) tags column (omega arith) (omega arith))
test_few tags column kind o h l (inr (inr t)) =
    let q = quoted_few o in
    text_kinds (λ k. length (spell_test k o) ≤ 78) kind t.0 t.1 (omega arith) (omega arith) (omega arith)
