-- A condition, path by path, and its field.
use Prim.Native.Nat.{ℕ, ◌+◌, ◌-◌, ◌≤◌}
use native.Mathlib.Omega.{arith}
use mathlib.Core.Path.{◌≡◌}
use mathlib.Core.List.{List, [], ◌∷◌, ◌++◌}
use lib.ListN.{length, drop}
use Rattle.std.specs.Prelude.{Option, None, Some}
use Rattle.fields.specs.Numbers.{bytes_of}
use Rattle.fields.specs.Header.{header_of, field_of}
use Rattle.fields.specs.Output.{Wrote}
use Rattle.fields.proofs.OutputLaws.{wrote_before, wrote_same}
use Rattle.predicate.specs.Kinds.{opposite_from}
use Rattle.predicate.specs.Payload.{payload_head}
use Rattle.query.specs.Format.{predicate_tag}
use Rattle.syntax.specs.Spelling.{not_word, column_word, space}
use Rattle.syntax.specs.Parsed.{wrong, absent, strip, ParsedTo}
use Rattle.syntax.specs.Conditions.{greatest_column, number_ahead, test_ahead, plain_ahead, condition_ahead}
use Rattle.lexer.specs.Lexed.{WordTo}
use Rattle.operands.specs.Reading.{TestTo}
use Rattle.conditions.specs.declared.condition.Condition.{Condition}
use Rattle.conditions.specs.Reading.{field_head, field_head_size, ConditionTo, ConditionRead}

-- the head and the operand are the field
head_field : (column kind : ℕ) (o : List ℕ) → field_head (length o) column kind ++ o ≡ field_of predicate_tag (column ∷ kind ∷ o)
unfolding field_of bytes_of
head_field column kind o = let z : payload_head + length o ≡ length (column ∷ kind ∷ o) = omega arith in rw z

-- the head as the code writes it
pub head_written : (size column kind : ℕ) → header_of predicate_tag (size + payload_head) ++ (column ∷ kind ∷ []) ≡ field_head size column kind
head_written size column kind = let z : size + payload_head ≡ payload_head + size = omega arith in rw z

-- a condition without `not `, piece by piece
module _ (tags : List ℕ) (raised : ℕ) (text : List ℕ) (at : ℕ) where
  pub plain_none : strip column_word (drop at text) ≡ absent → plain_ahead tags raised (drop at text) ≡ wrong
  unfolding plain_ahead
  plain_none e = rw e

  module _ {digits : ℕ} (W : WordTo text at column_word digits) where
    pub plain_unnumbered : number_ahead greatest_column (drop digits text) ≡ wrong → plain_ahead tags raised (drop at text) ≡ wrong
    unfolding plain_ahead
    plain_unnumbered e = rw (W.gives, e)

    module _ {column next : ℕ} (N : ParsedTo text digits (number_ahead greatest_column (drop digits text)) column next) where
      pub plain_joined : strip space (drop next text) ≡ absent → plain_ahead tags raised (drop at text) ≡ wrong
      unfolding plain_ahead
      plain_joined e = rw (W.gives, N.gives, e)

      module _ {behind : ℕ} (S : WordTo text next space behind) where
        pub plain_wrong : test_ahead tags column (drop behind text) ≡ wrong → plain_ahead tags raised (drop at text) ≡ wrong
        unfolding plain_ahead
        plain_wrong e = rw (W.gives, N.gives, S.gives, e)

        pub plain_read : {end kind last stop r : ℕ} {old mid new : List ℕ}
            → TestTo text behind (test_ahead tags column (drop behind text)) (end + field_head_size) old kind last stop mid
            → end + field_head_size ≤ length old → Wrote end (field_head (stop - (end + field_head_size)) column (kind + raised)) mid r new
            → ConditionTo text at (plain_ahead tags raised (drop at text)) end old last stop new
        unfolding plain_ahead bytes_of
        plain_read {end} {kind} {last} {stop} T l w =
            let z : stop - (end + field_head_size) ≡ length T.operand = omega (arith, T.wrote.place) in
            record {
              payload = column ∷ (kind + raised) ∷ T.operand;
              read = record {
                gives = rw (W.gives, N.gives, S.gives, T.read.gives);
                past = omega (arith, W.behind, N.past, S.behind, T.read.past);
                inside = T.read.inside;
              };
              wrote = wrote_same (head_field column (kind + raised) T.operand) (wrote_before l T.wrote (rw z at w));
            }

-- and behind `not `, or where none stands
module _ (tags text : List ℕ) (at : ℕ) where
  pub condition_not : {next : ℕ} → WordTo text at not_word next → (end : ℕ) (old : List ℕ) (r : Option Condition) (new : List ℕ)
      → ConditionRead text next (plain_ahead tags opposite_from (drop next text)) end old r new → ConditionRead text at (condition_ahead tags (drop at text)) end old r new
  unfolding condition_ahead
  condition_not W end old None new h = rw W.gives h
  condition_not W end old (Some read) new h = record {
    payload = h.payload;
    read = record { gives = rw W.gives h.read.gives; past = omega (arith, W.behind, h.read.past); inside = h.read.inside };
    wrote = h.wrote;
  }

  pub condition_plain : strip not_word (drop at text) ≡ absent → (end : ℕ) (old : List ℕ) (r : Option Condition) (new : List ℕ)
      → ConditionRead text at (plain_ahead tags 0 (drop at text)) end old r new → ConditionRead text at (condition_ahead tags (drop at text)) end old r new
  unfolding condition_ahead
  condition_plain e end old None new h = rw e h
  condition_plain e end old (Some read) new h = rw e h
