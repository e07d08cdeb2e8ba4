-- The loops that open and close groups: each round is a step of the machine, whatever the whole text gives.
use Prim.Native.Nat.{ℕ, ◌+◌, ◌-◌, ◌≤◌, ◌<◌}
use native.Mathlib.Omega.{arith}
use mathlib.Core.Path.{◌≡◌, subst}
use mathlib.Core.Bool.{Bool}
use mathlib.Core.List.{List}
use lib.ListN.{length, get_or}
use Rattle.fields.specs.Numbers.{number_at, bytes_of}
use Rattle.fields.specs.Header.{header_of}
use Rattle.fields.specs.Output.{Wrote}
use Rattle.fields.proofs.Laws.{length_bytes}
use Rattle.fields.proofs.OutputLaws.{wrote_length}
use Rattle.query.specs.Encode.{group_tag}
use Rattle.syntax.specs.Spelling.{group_word, closing}
use Rattle.syntax.specs.Machine.{Typed}
use Rattle.lexer.specs.Lexed.{WordTo}
use Rattle.parser.specs.declared.groups.Place.{Place}
use Rattle.parser.specs.Reading.{Fits, Expecting, Behind}
use Rattle.parser.proofs.ReadingLaws.{place, group_size, group_opened, enclosing_place, group_closed}

-- what a loop keeps: whatever is expected, or stands, where it began, still is, or does, where it has come to
pub record Kept (Stands : Typed → List ℕ → List ℕ → Place → List ℕ → Type 0) (text : List ℕ) (from : Place) (old : List ℕ) (here : Place) (new : List ℕ) : Type 0 where
  pub fits : Fits text new
  pub now : (whole : Typed) × (tags : List ℕ) × Stands whole tags text here new
  pub after : from.at ≤ here.at
  pub keeps : (whole : Typed) (tags : List ℕ) → Stands whole tags text from old → Stands whole tags text here new

pub kept_start : (Stands : Typed → List ℕ → List ℕ → Place → List ℕ → Type 0) (text : List ℕ) (from : Place) (old : List ℕ)
    → Fits text old × ((whole : Typed) × (tags : List ℕ) × Stands whole tags text from old) → Kept Stands text from old from old
kept_start Stands text from old c = record { fits = c.0; now = c.1; after = omega arith; keeps = λ whole tags s. s }

fits_still : (text mid new : List ℕ) → length new ≡ length mid → Fits text mid → Fits text new
fits_still text mid new e fits = (fits.0, omega (arith, fits.1))

-- OPENING
module _ {text : List ℕ} {from : Place} {old : List ℕ} {here : Place} {mid : List ℕ} (O : Kept Expecting text from old here mid) (k : Bool) {behind : ℕ}
    (W : WordTo text here.at (group_word k) behind) where
  pub opening_room : here.end + 3 ≤ length mid
  opening_room = omega (arith, O.fits, O.now.2.standing.room, W.behind, W.inside, group_size k)

  pub opening_more : {tag next : ℕ} {new : List ℕ} → tag ≡ group_tag k → Wrote here.end (header_of tag here.innermost) mid next new
      → Kept Expecting text from old (place behind next (here.end + 1)) new
  opening_more {tag} {next} {new} e w =
      let v : Wrote here.end (header_of (group_tag k) here.innermost) mid next new =
      subst (λ (t : ℕ). Wrote here.end (header_of t here.innermost) mid next new) e w in
      record {
        fits = fits_still text mid new (wrote_length w (omega (arith, w.place, length_bytes 2 here.innermost, opening_room))) O.fits;
        now = (O.now.0, O.now.1, group_opened O.now.2 k O.fits W v);
        after = omega (arith, O.after, W.behind);
        keeps = λ whole tags E. group_opened (O.keeps whole tags E) k O.fits W v;
      }

-- CLOSING
module _ {text : List ℕ} {from : Place} {old : List ℕ} {here : Place} {mid : List ℕ} (O : Kept Behind text from old here mid) (still : here.innermost ≡ 0 → ⊥) where
  pub closing_place : (here.innermost + 2 ≤ here.end) × (here.end ≤ length mid)
  closing_place = enclosing_place O.now.2 still O.fits

  pub closing_more : {outer r : ℕ} {new : List ℕ} → here.at < length text → get_or text here.at 0 ≡ closing → outer ≡ number_at mid here.innermost 2
      → Wrote here.innermost (bytes_of 2 (here.end - (here.innermost + 2))) mid r new
      → Kept Behind text from old (place (here.at + 1) here.end outer) new
  closing_more {outer} {r} {new} l c o w = record {
    fits = fits_still text mid new (wrote_length w (omega (arith, w.place, length_bytes 2 (here.end - (here.innermost + 2)), closing_place))) O.fits;
    now = (O.now.0, O.now.1, group_closed O.now.2 still O.fits l c o w);
    after = omega (arith, O.after);
    keeps = λ whole tags M. group_closed (O.keeps whole tags M) still O.fits l c o w;
  }
