-- A condition with the groups that begin before it and end behind it: opened, read, closed.
use Prim.Native.Nat.{ℕ, ◌+◌}
use native.Mathlib.Omega.{arith}
use mathlib.Core.Path.{◌≡◌}
use mathlib.Core.List.{List}
use lib.ListN.{length, drop}
use Rattle.syntax.specs.Parsed.{wrong}
use Rattle.syntax.specs.Conditions.{condition_ahead}
use Rattle.syntax.specs.Machine.{Typed, misspelled}
use Rattle.operands.specs.Reading.{HasRoom}
use Rattle.conditions.specs.Reading.{ConditionTo}
use Rattle.parser.specs.declared.groups.Place.{Place}
use Rattle.parser.specs.Reading.{Fits, Expecting, Opened, GroupsClosable, Closed, MemberReadable, MemberTo}
use Rattle.parser.proofs.ReadingLaws.{place, expecting_room, condition_misspelled, condition_behind}

module _ {tags text : List ℕ} {from : Place} {old : List ℕ} (can : MemberReadable tags text from old) {here : Place} {mid : List ℕ} (O : Opened text from old here mid)
    (same : length mid ≡ length old) where
  fits : Fits text mid
  fits = (can.0.0, omega (arith, can.0.1))

  expected : Expecting can.1.0 tags text here mid
  expected = O.keeps can.1.0 tags can.1.1

  pub member_room : HasRoom text here.at mid (here.end + 5)
  member_room = expecting_room expected fits

  pub member_wrong : condition_ahead tags (drop here.at text) ≡ wrong → (whole : Typed) → Expecting whole tags text from old → whole ≡ misspelled
  member_wrong e whole E = condition_misspelled (O.keeps whole tags E) O.none e

  module _ {next stop : ℕ} {new : List ℕ} (C : ConditionTo text here.at (condition_ahead tags (drop here.at text)) here.end mid next stop new) where
    pub member_can_close : length new ≡ length mid → GroupsClosable text (place next stop here.innermost) new
    member_can_close e = ((fits.0, omega (arith, fits.1)), (can.1.0, tags, condition_behind expected C fits O.none))

    pub member_read : {there : Place} {newer : List ℕ} → Closed text (place next stop here.innermost) new there newer → MemberTo tags text from old there newer
    member_read K = record {
      none = K.none;
      past = omega (arith, O.after, C.read.past, K.after);
      inside = (K.keeps can.1.0 tags (condition_behind expected C fits O.none)).standing.inside;
      keeps = λ whole E. K.keeps whole tags (condition_behind (O.keeps whole tags E) C fits O.none);
    }
