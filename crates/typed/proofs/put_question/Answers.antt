-- `put_question` meets its contract.
use Rattle.std.proofs.Common.{arith, sym, ap, ◌∙◌}
use Rattle.std.specs.Prelude.{ℕ, List, get_or, set, ◌+◌, ◌≡◌, ◌++◌, take, drop, length}
use native.Mathlib.Nat.{zero-add}
use native.Mathlib.Numerals.{add-one}
use lib.Seq.{paste, paste-zero, paste-suc, take-length}
use Rattle.typed.proofs.put_question.Goals as goal

pub loop-i-init : goal.loop-i-init
loop-i-init c = paste-zero c.args.output.now 0 c.args.question.now

pub loop-i-preserved : goal.loop-i-preserved
loop-i-preserved c =
    let old = c.args.output.now in
    let question = c.args.question.now in
    let i = c.loop-i.i in
    ap (λ (o : List ℕ). set o i (get_or question i 0)) c.loop-i.invariant
    ∙ ap (λ (k : ℕ). set (paste old 0 question i) k (get_or question i 0)) (sym (zero-add i))
    ∙ paste-suc old 0 question i 0 (omega arith) c.loop-i-test.true
    ∙ ap (paste old 0 question) (sym (add-one i))

pub returns : goal.returns
returns c =
    let old = c.args.output.now in
    let question = c.args.question.now in
    let all : c.loop-i.i ≡ length question = omega arith in
    record {
      bytes = rw all at c.loop-i.invariant
          ∙ ap (λ (t : List ℕ). take 0 old ++ t ++ drop (0 + length question) old) (take-length question);
      place = sym (zero-add (length question));
    }
