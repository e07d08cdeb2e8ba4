-- "A parish of three entries": with order 00 01 02, `consult` prints exactly these lines.
use mathlib.Core.Path.{◌≡◌, ap₂}
use mathlib.Core.Bool.{xor}
use mathlib.Core.List.{[], ◌∷◌, ◌++◌}
use lib.Count.{ones, ones_in as digitOnes}
use Rattle.fields.specs.Numbers.{number_at, bytes_of}
use Rattle.predicate.specs.Kinds.{plain_kind, asks_content}
use Rattle.predicate.specs.Meaning.{folded, same, begins, occurs, number_test, text_test, outcome_of}
use Rattle.strategy.specs.Assignment.{update, elem}
use Rattle.strategy.specs.Strategy.{predicates}
use Rattle.strategy.specs.Trace.{decides, some_outcomes, due, trace}
use Rattle.strategy.specs.Tree.{eval}
use Rattle.strategy.specs.Order.{occurrences, all_below, is_order}
use Rattle.bitmaps.specs.Sums.{sum_of, joined}
use Rattle.bitmaps.specs.Bitmap.{bitmap, bitmaps, ones_in}
use Rattle.task.specs.Task.{is_selected, due_at, trace_at}
use Rattle.answers.specs.Checks.{checked}
use Rattle.demands.specs.Run.{selection, probe_bitmaps, run_on}
use Rattle.bitmaps.specs.Bit.{bit}
use Rattle.sets.specs.Set.{has}
use Rattle.fields.specs.Decimal.{digits, decimal}
use Rattle.lines.specs.Line.{line}
use Rattle.register.specs.Register.{header, entries, condition_line, conditions, accepted}
use Rattle.demands.specs.Parish.{parish, question}
use Rattle.demands.proofs.CaseInputs.{parish_input, run_on_lem}
use Rattle.consultation.specs.Consultation.{register_after, consultation_of}

parish_register : consultation_of parish question (0 ∷ 1 ∷ 2 ∷ [])
    ≡ header
    ++ (102 ∷ 111 ∷ 117 ∷ 110 ∷ 100 ∷ 32 ∷ 50 ∷ 10 ∷ [])
    ++ (101 ∷ 110 ∷ 116 ∷ 114 ∷ 121 ∷ 32 ∷ 48 ∷ 10 ∷ [])
    ++ (101 ∷ 110 ∷ 116 ∷ 114 ∷ 121 ∷ 32 ∷ 50 ∷ 10 ∷ [])
    ++ (108 ∷ 111 ∷ 111 ∷ 107 ∷ 115 ∷ 32 ∷ 54 ∷ 10 ∷ [])
    ++ (99 ∷ 111 ∷ 110 ∷ 100 ∷ 105 ∷ 116 ∷ 105 ∷ 111 ∷ 110 ∷ 32 ∷ 48 ∷ 32 ∷ 51 ∷ 10 ∷ [])
    ++ (99 ∷ 111 ∷ 110 ∷ 100 ∷ 105 ∷ 116 ∷ 105 ∷ 111 ∷ 110 ∷ 32 ∷ 49 ∷ 32 ∷ 49 ∷ 10 ∷ [])
    ++ (99 ∷ 111 ∷ 110 ∷ 100 ∷ 105 ∷ 116 ∷ 105 ∷ 111 ∷ 110 ∷ 32 ∷ 50 ∷ 32 ∷ 50 ∷ 10 ∷ [])
unfolding number_at bytes_of folded same begins occurs plain_kind asks_content number_test text_test outcome_of update elem predicates decides some_outcomes due trace eval occurrences all_below is_order sum_of joined bitmap bitmaps ones_in is_selected due_at trace_at selection probe_bitmaps checked run_on ones digitOnes xor bit has digits decimal line entries condition_line conditions accepted
parish_register = ap₂ register_after parish_input (run_on_lem parish question _ _ _ _ _ parish_input)
