-- What a condition asks, path by path: a range, a quoted text, and the word that says which.
use Prim.Native.Nat.{ℕ, ◌+◌, ◌≤◌}
use native.Mathlib.Omega.{arith}
use mathlib.Core.Path.{◌≡◌, ◌∙◌}
use mathlib.Core.List.{List, [], ◌++◌}
use lib.ListN.{length, drop}
use Rattle.std.specs.Prelude.{Option, None, Some}
use Rattle.fields.specs.Numbers.{bytes_of}
use Rattle.fields.specs.Output.{Wrote}
use Rattle.fields.proofs.OutputLaws.{wrote_then, wrote_none}
use Rattle.fields.proofs.Laws.{length_bytes}
use Rattle.predicate.specs.Kinds.{range_kind, equals_kind, begins_kind, contains_kind, text_blank_kind}
use Rattle.syntax.specs.Spelling.{in_word, to_word, blank_word, is_word, starts_word, has_word, blank_kind}
use Rattle.syntax.specs.Parsed.{Parsed, wrong, absent, strip, ParsedTo}
use Rattle.syntax.specs.Conditions as ahead
use Rattle.syntax.specs.Conditions.{greatest_number, number_ahead, range_ahead, text_ahead, test_ahead}
use Rattle.syntax.proofs.TestLaws.{blank_kinds}
use Rattle.lexer.specs.Lexed.{WordTo}
use Rattle.operands.specs.declared.test.Test.{Test}
use Rattle.operands.specs.Reading.{TestTo, TestRead}

-- two numbers, with two dots between them
pub range_read : (text : List ℕ) (at : ℕ) {low dots behind high next : ℕ} (end : ℕ) {half stop : ℕ} (old : List ℕ) {mid new : List ℕ}
    → ParsedTo text at (number_ahead greatest_number (drop at text)) low dots → WordTo text dots to_word behind
    → ParsedTo text behind (number_ahead greatest_number (drop behind text)) high next
    → end + 8 ≤ length old → Wrote end (bytes_of 4 low) old half mid → Wrote half (bytes_of 4 high) mid stop new
    → TestTo text at (range_ahead (drop at text)) end old range_kind next stop new
range_read text at {low} {high = high} end old L W H l u v = record {
  operand = bytes_of 4 low ++ bytes_of 4 high;
  read = record { gives = rw (L.gives, W.gives, H.gives); past = omega (arith, L.past, W.behind, H.past); inside = H.inside };
  wrote = wrote_then (omega (arith, u.place, length_bytes 4 low)) u v;
  room = omega (arith, u.place, v.place, length_bytes 4 low, length_bytes 4 high);
  small = omega arith;
}

-- WHICH WORD: what is read behind it is what is read from it on
test_behind : {text : List ℕ} {at : ℕ} {word : List ℕ} {next : ℕ} → WordTo text at word next → {p q : Parsed ahead.Asked} → p ≡ q
    → (end : ℕ) (old : List ℕ) (r : Option Test) (new : List ℕ) → TestRead text next q end old r new → TestRead text at p end old r new
test_behind W e end old None new h = e ∙ h
test_behind W e end old (Some read) new h = record {
  operand = h.operand;
  read = record { gives = e ∙ h.read.gives; past = omega (arith, W.behind, h.read.past); inside = h.read.inside };
  wrote = h.wrote;
  room = h.room;
  small = h.small;
}

module _ (tags : List ℕ) (column : ℕ) (text : List ℕ) (at : ℕ) where
  -- what a result says of the text from here on
  abbrev Gives : (end : ℕ) (old : List ℕ) → Option Test → (new : List ℕ) → Type 0
  Gives = TestRead text at (test_ahead tags column (drop at text))

  -- and of the text behind a word
  abbrev Behind : (next : ℕ) → (List ℕ → Parsed ahead.Asked) → (end : ℕ) (old : List ℕ) → Option Test → (new : List ℕ) → Type 0
  Behind next q = TestRead text next (q (drop next text))

  pub test_in : {next : ℕ} → WordTo text at in_word next → (end : ℕ) (old : List ℕ) (r : Option Test) (new : List ℕ)
      → Behind next range_ahead end old r new → Gives end old r new
  unfolding test_ahead
  test_in W = test_behind W (rw W.gives)

  module _ (a : strip in_word (drop at text) ≡ absent) where
    pub test_blank : {next : ℕ} → WordTo text at blank_word next → (end : ℕ) (old : List ℕ) → end ≤ length old
        → TestTo text at (test_ahead tags column (drop at text)) end old (blank_kind tags column) next end old
    unfolding test_ahead
    test_blank W end old m = record {
      operand = [];
      read = record { gives = rw (a, W.gives); past = omega (arith, W.behind); inside = W.inside };
      wrote = wrote_none end old;
      room = m;
      small = blank_kinds (λ (kind : ℕ). kind ≤ text_blank_kind) tags column (omega arith) (omega arith);
    }

    module _ (b : strip blank_word (drop at text) ≡ absent) where
      pub test_is : {next : ℕ} → WordTo text at is_word next → (end : ℕ) (old : List ℕ) (r : Option Test) (new : List ℕ)
          → Behind next (text_ahead equals_kind) end old r new → Gives end old r new
      unfolding test_ahead
      test_is W = test_behind W (rw (a, b, W.gives))

      module _ (c : strip is_word (drop at text) ≡ absent) where
        pub test_starts : {next : ℕ} → WordTo text at starts_word next → (end : ℕ) (old : List ℕ) (r : Option Test) (new : List ℕ)
            → Behind next (text_ahead begins_kind) end old r new → Gives end old r new
        unfolding test_ahead
        test_starts W = test_behind W (rw (a, b, c, W.gives))

        module _ (d : strip starts_word (drop at text) ≡ absent) where
          pub test_has : {next : ℕ} → WordTo text at has_word next → (end : ℕ) (old : List ℕ) (r : Option Test) (new : List ℕ)
              → Behind next (text_ahead contains_kind) end old r new → Gives end old r new
          unfolding test_ahead
          test_has W = test_behind W (rw (a, b, c, d, W.gives))

          pub test_none : strip has_word (drop at text) ≡ absent → test_ahead tags column (drop at text) ≡ wrong
          unfolding test_ahead
          test_none e = rw (a, b, c, d, e)
