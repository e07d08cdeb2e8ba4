-- A quoted text read byte by byte.
use Prim.Native.Nat.{ℕ, ◌+◌, ◌-◌, ◌*◌, ◌≤◌, ◌<◌}
use native.Mathlib.Omega.{arith}
use mathlib.Core.Path.{◌≡◌, refl, sym, ap, ◌∙◌}
use mathlib.Core.Bool.{Bool, true, false, cond}
use mathlib.Core.List.{List, [], ◌∷◌, ◌++◌, append_assoc}
use Rattle.std.specs.Prelude.{Option, None, Some}
use lib.ListN.{length, get_or, set, drop, length-append}
use borrow.Author.Tests.{lt-ltb, ne_eqb}
use Rattle.std.proofs.lemmas.List.{drop_all}
use Rattle.fields.specs.Output.{Wrote}
use Rattle.fields.proofs.OutputLaws.{wrote_then, wrote_none, wrote_byte}
use Rattle.syntax.specs.Spelling.{quote, backslash, is_plain}
use Rattle.syntax.specs.Parsed.{Parsed, wrong, parsed, parsed_then}
use Rattle.syntax.specs.Conditions.{hex_value, is_hex, byte_before, quoted_ahead, escape_ahead, digit_ahead}
use Rattle.lexer.specs.declared.quoted.QuotedByte.{QuotedByte}
use Rattle.lexer.specs.declared.quoted.QuotedByte.TheVariants as byte
use Rattle.lexer.specs.Lexed.{ByteTo, EscapeRead, ByteRead}
use Rattle.lexer.proofs.Ahead.{ahead}

-- two digits behind a backslash
digit_cut : (high : ℕ) (b : Bool) → cond b (digit_ahead high []) wrong ≡ wrong
unfolding digit_ahead
digit_cut high true = refl
digit_cut high false = refl

module _ (text : List ℕ) (at : ℕ) where
  pub escape_none : length text ≤ at + 1 → escape_ahead (drop (at + 1) text) ≡ wrong
  unfolding escape_ahead
  escape_none l = rw (drop_all (at + 1) text l)

  module _ (l : at + 1 < length text) {first : ℕ} (is : first ≡ get_or text (at + 1) 0) where
    first_ahead : drop (at + 1) text ≡ first ∷ drop (at + 2) text
    first_ahead = ahead text (at + 1) l is (omega arith)

    pub escape_cut : length text ≤ at + 2 → escape_ahead (drop (at + 1) text) ≡ wrong
    unfolding escape_ahead
    escape_cut m = rw (first_ahead, drop_all (at + 2) text m) (digit_cut (hex_value first) (is_hex first))

    pub escape_high : hex_value first ≡ 16 → escape_ahead (drop (at + 1) text) ≡ wrong
    unfolding escape_ahead
    escape_high e = rw (first_ahead, e)

    module _ {high : ℕ} (f : high ≡ hex_value first) (h : high < 16) where
      escape_digit : escape_ahead (drop (at + 1) text) ≡ digit_ahead high (drop (at + 2) text)
      unfolding escape_ahead
      escape_digit = rw (first_ahead, ← f, lt-ltb high 16 h)

      module _ (m : at + 2 < length text) {second : ℕ} (js : second ≡ get_or text (at + 2) 0) where
        second_ahead : drop (at + 2) text ≡ second ∷ drop (at + 3) text
        second_ahead = ahead text (at + 2) m js (omega arith)

        pub escape_low : hex_value second ≡ 16 → escape_ahead (drop (at + 1) text) ≡ wrong
        unfolding digit_ahead
        escape_low e = escape_digit ∙ rw (second_ahead, e)

        module _ {low : ℕ} (g : low ≡ hex_value second) (k : low < 16) where
          escape_value : escape_ahead (drop (at + 1) text)
              ≡ cond (is_plain (high * 16 + low)) wrong (byte_before (high * 16 + low) (quoted_ahead (drop (at + 3) text)))
          unfolding digit_ahead
          escape_value = escape_digit ∙ rw (second_ahead, ← g, lt-ltb low 16 k)

          pub escape_plain : is_plain (high * 16 + low) ≡ true → escape_ahead (drop (at + 1) text) ≡ wrong
          escape_plain p = escape_value ∙ rw p

          pub escape_byte : is_plain (high * 16 + low) ≡ false → ByteTo text at (escape_ahead (drop (at + 1) text)) (high * 16 + low) (at + 3)
          escape_byte p = record { gives = escape_value ∙ rw p; past = omega arith; inside = omega arith }

-- what stands between quotes
pub byte_none : (text : List ℕ) (at : ℕ) → length text ≤ at → quoted_ahead (drop at text) ≡ wrong
unfolding quoted_ahead
byte_none text at l = rw (drop_all at text l)

module _ (text : List ℕ) (at : ℕ) (inside : at < length text) {first : ℕ} (is : first ≡ get_or text at 0) where
  pub byte_end : first ≡ quote → ByteRead text at (Some byte.End)
  unfolding quoted_ahead
  byte_end e = (rw (ahead text at inside is refl, e), inside)

  byte_escaped : first ≡ backslash → quoted_ahead (drop at text) ≡ escape_ahead (drop (at + 1) text)
  unfolding quoted_ahead
  byte_escaped e = rw (ahead text at inside is refl, e)

  pub byte_escape : first ≡ backslash → (r : Option QuotedByte) → EscapeRead text at r → ByteRead text at r
  byte_escape e None h = byte_escaped e ∙ h
  byte_escape e (Some byte.End) h = absurd h
  byte_escape e (Some (byte.Byte x next)) h = record { gives = byte_escaped e ∙ h.gives; past = h.past; inside = h.inside }

  module _ (goes : first ≡ quote → ⊥) (plain : first ≡ backslash → ⊥) where
    pub byte_wrong : is_plain first ≡ false → quoted_ahead (drop at text) ≡ wrong
    unfolding quoted_ahead
    byte_wrong p = rw (ahead text at inside is refl, p, ne_eqb first quote goes, ne_eqb first backslash plain)

    pub byte_itself : is_plain first ≡ true → ByteTo text at (quoted_ahead (drop at text)) first (at + 1)
    unfolding quoted_ahead
    byte_itself p = record {
      gives = rw (ahead text at inside is refl, p, ne_eqb first quote goes, ne_eqb first backslash plain);
      past = omega arith;
      inside = omega arith;
    }

-- THE LOOP: bytes read so far, before those that the text goes on with
abbrev pub bytes_before : (read : List ℕ) → Parsed (List ℕ) → Parsed (List ℕ)
bytes_before xs p = parsed_then p (λ ys rest. parsed (xs ++ ys) rest)

pub record Going (text : List ℕ) (from : ℕ) (old : List ℕ) (to at end : ℕ) (new : List ℕ) : Type 0 where
  pub read : List ℕ
  pub after : from ≤ at
  pub inside : at ≤ length text
  pub gives : quoted_ahead (drop from text) ≡ bytes_before read (quoted_ahead (drop at text))
  pub wrote : Wrote to read old end new
  pub short : length read ≤ at - from

before_none : (p : Parsed (List ℕ)) → p ≡ bytes_before [] p
before_none wrong = refl
before_none (parsed ys rest) = refl

before_byte : (xs : List ℕ) (x : ℕ) (p : Parsed (List ℕ)) → bytes_before xs (byte_before x p) ≡ bytes_before (xs ++ (x ∷ [])) p
before_byte xs x wrong = refl
before_byte xs x (parsed ys rest) = ap (λ (zs : List ℕ). parsed zs rest) (sym (append_assoc xs (x ∷ []) ys))

pub going_start : (text : List ℕ) (from : ℕ) (old : List ℕ) (to : ℕ) → from ≤ length text → Going text from old to from to old
going_start text from old to l = record {
  read = [];
  after = omega arith;
  inside = l;
  gives = before_none (quoted_ahead (drop from text));
  wrote = wrote_none to old;
  short = omega arith;
}

module _ {text : List ℕ} {from : ℕ} {old : List ℕ} {to at end : ℕ} {new : List ℕ} (G : Going text from old to at end new) where
  -- where the next byte goes there is room
  pub going_room : at < length text → to + (length text - from) ≤ length old → end < length old
  going_room l m = omega (arith, G.wrote.place, G.short, G.after)

  pub going_byte : {x next : ℕ} → at < length text → to + (length text - from) ≤ length old → length new ≡ length old
      → ByteTo text at (quoted_ahead (drop at text)) x next → Going text from old to next (end + 1) (set new end x)
  going_byte {x} {next} l m e B = record {
    read = G.read ++ (x ∷ []);
    after = omega (arith, G.after, B.past);
    inside = B.inside;
    gives = G.gives ∙ ap (bytes_before G.read) B.gives ∙ before_byte G.read x (quoted_ahead (drop next text));
    wrote = wrote_then (omega (arith, going_room l m)) G.wrote (wrote_byte end x new (omega (arith, going_room l m)));
    short = omega (arith, length-append G.read (x ∷ []), G.short, B.past, G.after);
  }
