-- `read_text` meets its contract. Invariant: a member stands, and what the machine gives from here on it gives for the
-- whole text.
use Rattle.parser.specs.Reading.{Behind}
use Rattle.std.specs.Prelude.{get_or, length, ◌-◌, ◌<◌, ◌≡◌}
use Rattle.syntax.specs.Machine.{question_of}
use Rattle.syntax.specs.Spelling.{closing}
use Rattle.parser.proofs.whole.read_text.Given as goal

abbrev pub invariant-loop-here : goal.invariant-loop-here
invariant-loop-here l = record {
  stands : Behind (question_of l.tags l.text) l.tags l.text l.here l.out;
  no_closing : (l.here.innermost ≡ 0 → ⊥) → l.here.at < length l.text → get_or l.text l.here.at 0 ≡ closing → ⊥;
}

abbrev pub decreases-loop-here : goal.decreases-loop-here
decreases-loop-here l = length l.text - l.here.at
