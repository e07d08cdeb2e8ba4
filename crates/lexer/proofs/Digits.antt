-- A number read digit by digit.
use Prim.Native.Nat.{ℕ, ◌+◌, ◌-◌, ◌*◌, ◌≤◌, ◌<◌}
use native.Mathlib.Omega.{arith}
use mathlib.Core.Path.{◌≡◌, refl}
use mathlib.Core.Bool.{true, false}
use mathlib.Core.List.{List}
use lib.ListN.{length, get_or, drop}
use borrow.Author.Tests.{ne_eqb, le-leb, lt-leb}
use Rattle.std.proofs.lemmas.List.{drop_all}
use Rattle.syntax.specs.Parsed.{wrong, parsed, ParsedTo}
use Rattle.syntax.specs.Conditions.{is_digit, more_digits, number_ahead}
use Rattle.lexer.proofs.Ahead.{ahead}

pub number_none : (text : List ℕ) (at limit : ℕ) → length text ≤ at → number_ahead limit (drop at text) ≡ wrong
unfolding number_ahead
number_none text at limit l = rw (drop_all at text l)

module _ (text : List ℕ) (at limit : ℕ) (l : at < length text) {first : ℕ} (is : first ≡ get_or text at 0) where
  pub number_zero : first ≡ 48 → ParsedTo text at (number_ahead limit (drop at text)) 0 (at + 1)
  unfolding number_ahead
  number_zero e = record { gives = rw (ahead text at l is refl, e); past = omega arith; inside = omega arith }

  module _ (n : first ≡ 48 → ⊥) where
    pub number_wrong : is_digit first ≡ false → number_ahead limit (drop at text) ≡ wrong
    unfolding number_ahead
    number_wrong d = rw (ahead text at l is refl, ne_eqb first 48 n, d)

    pub number_begins : is_digit first ≡ true → {number : ℕ} → number ≡ first - 48 → number_ahead limit (drop at text) ≡ more_digits limit number (drop (at + 1) text)
    unfolding number_ahead
    number_begins d e = rw (ahead text at l is refl, ne_eqb first 48 n, d, e)

pub digits_over : (text : List ℕ) (next limit number : ℕ) → length text ≤ next
    → more_digits limit number (drop next text) ≡ parsed number (drop (length text) text)
unfolding more_digits
digits_over text next limit number l = rw (drop_all next text l, drop_all (length text) text (omega arith))

module _ (text : List ℕ) (next limit number : ℕ) (l : next < length text) where
  pub digits_end : is_digit (get_or text next 0) ≡ false → more_digits limit number (drop next text) ≡ parsed number (drop next text)
  unfolding more_digits
  digits_end d = rw (ahead text next l refl refl, d)

  module _ (d : is_digit (get_or text next 0) ≡ true) {more : ℕ} (e : more ≡ number * 10 + (get_or text next 0 - 48)) where
    pub digits_pass : limit < more → more_digits limit number (drop next text) ≡ wrong
    unfolding more_digits
    digits_pass m = rw (ahead text next l refl refl, d, ← e, lt-leb more limit m)

    pub digits_go : more ≤ limit → more_digits limit number (drop next text) ≡ more_digits limit more (drop (next + 1) text)
    unfolding more_digits
    digits_go m = rw (ahead text next l refl refl, d, ← e, le-leb more limit m)
