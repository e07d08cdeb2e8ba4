-- A TALLY FOR EACH READER (order 7): what a sequence of runs leaves; proofs/TallyPage.antt proves each statement of this page. What one run does to the
-- tally stands on the demands page (`Demand2Tally`, `Demand2OtherReaders`, `Demand1Refused`); words as there.
use Rattle.std.specs.Prelude.{ℕ, ◌+◌, ◌/◌, ◌%◌, ◌^◌, ◌≡◌, ◌&&◌, cond, List, [], ◌∷◌, length, replicate, eqb}
use Rattle.fields.specs.Numbers.{Bytes}
use Rattle.demands.specs.Run.{Lent, counter_at}
use Rattle.demands.specs.Demands.{InBytes, after}

-- "any sequence of runs, each lent the tally as the last left it": `tally` is lent to the first, `left` is what the last leaves. Of a run it is only asked
-- that its catalogue and question are bytes; they, the order, the reader, the listed and the looks table may differ from run to run, and it may be refused
abbrev pub Through : (tally : List ℕ) → (runs : List Lent) → (left : List ℕ) → Type 0
Through tally [] left = left ≡ tally
Through tally (l ∷ ls) left = InBytes l.request × (l.tally ≡ tally) × Through (after l).tally ls left

-- "the look counts of that reader's accepted runs": the third result of a run that is this reader's and accepted (number 0); else 0
abbrev pub looks_by : (reader : ℕ) → Lent → ℕ
looks_by reader l = cond (eqb l.reader reader && eqb ((after l).word % 2 ^ 8) 0) ((after l).word / 2 ^ 40) 0

-- and their sum
abbrev pub sum_by : (reader : ℕ) → List Lent → ℕ
sum_by reader [] = 0
sum_by reader (l ∷ ls) = looks_by reader l + sum_by reader ls

-- "From zeros, over any sequence of runs, each lent the tally as the last left it, every number is the sum of the look counts of that reader's accepted
-- runs." For r over 15 both sides are 0
abbrev pub TallySums : Type 0
TallySums =
    (runs : List Lent) (left : List ℕ) → Through (replicate 128 0) runs left
    → (length left ≡ 128) × Bytes left × ((r : ℕ) → counter_at left r ≡ sum_by r runs)

-- and from any tally at all every number grows by that sum
abbrev pub TallyGrows : Type 0
TallyGrows =
    (tally : List ℕ) (runs : List Lent) (left : List ℕ) → Through tally runs left → (r : ℕ) → counter_at left r ≡ counter_at tally r + sum_by r runs
