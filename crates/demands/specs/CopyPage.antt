-- THE STEWARD'S COPY OF THE REGISTER (order 1), sentence by sentence; proofs/CopyPage.antt proves each statement of this page.
-- It speaks of every word and output that the contract of `searchroom_copy` allows, `LogGives` of Log.antt; words as on the demands page.
use Rattle.std.specs.Prelude.{ℕ, ◌*◌, ◌/◌, ◌%◌, ◌^◌, ◌≤◌, ◌<◌, ◌≡◌, true, ◌↔◌, List, [], ◌∷◌, length, take, drop}
use Rattle.predicate.specs.Meaning.{outcome}
use Rattle.strategy.specs.Order.{occurrences}
use Rattle.bitmaps.specs.Bit.{bit}
use Rattle.task.specs.Input.{Input}
use Rattle.answers.specs.Answers.{outcome_number}
use Rattle.demands.specs.Sentences.{Sentences, says}
use Rattle.demands.specs.Run.{Request, Lent, row_count, predicate_count, task_of, look_count}
use Rattle.demands.specs.Demands.{Gives, InBytes, after, Reads, Keeps, Breaks, RunningOrder, Kept, condition_of, BlankAt, LookMade, looks_line}
use Rattle.demands.specs.Log.{task_fields, LogGives}

-- WORDS OF THIS PAGE

-- the looks of a run of the request, and the bytes of their fields
abbrev pub looks_of : Input → Request → ℕ
looks_of i r = look_count (task_of i r.order)

abbrev pub copy_bytes : Input → Request → ℕ
copy_bytes i r = 7 * looks_of i r

-- "Inputs are those of a run without tables and tally.", and until order 8 without its reader: 15, then "20, the lent output is too short, after 15"
abbrev pub copy_sentences : Request → (output : List ℕ) → Input → Sentences
copy_sentences r output i = says 15 (RunningOrder i r.order) ∷ says 20 (copy_bytes i r ≤ length output) ∷ []

-- a copy that breaks nothing, and the first that it breaks
abbrev pub CopyKept : Request → (output : List ℕ) → Input → Type 0
CopyKept r output i = Keeps r.catalogue r.question (copy_sentences r output) i

abbrev pub CopyBroken : Request → (output : List ℕ) → (e : ℕ) → Type 0
CopyBroken r output e = Breaks r.catalogue r.question (copy_sentences r output) e

-- a sequence for each entry that has the conditions looked at there, each once, and no other
abbrev pub EachLookOnce : Input → Request → (sequence : (entry : ℕ) → List ℕ) → Type 0
EachLookOnce i r s =
    (e c : ℕ) → e < row_count i
    → (LookMade i r.order e c → occurrences c (s e) ≡ 1) × ((LookMade i r.order e c → ⊥) → occurrences c (s e) ≡ 0)

-- THE CALL

-- the number of every refusal
abbrev pub CopyNumber : Type 0
CopyNumber =
    (r : Request) (old new : List ℕ) (w : ℕ) → LogGives r old w new → InBytes r → (e : ℕ) → 0 < e → (w % 2 ^ 8 ≡ e) ↔ CopyBroken r old e

-- "A refusal gives its number, with zeros for every other result, and alters nothing lent."
abbrev pub CopyRefused : Type 0
CopyRefused =
    (r : Request) (old new : List ℕ) (w : ℕ) → LogGives r old w new → (e : ℕ) → CopyBroken r old e → Gives w e 0 0 0 × (new ≡ old)

-- where nothing is broken it is accepted
abbrev pub CopyAccepted : Type 0
CopyAccepted =
    (r : Request) (old new : List ℕ) (w : ℕ) → LogGives r old w new → InBytes r → (w % 2 ^ 8 ≡ 0) ↔ ((i : Input) × CopyKept r old i)

-- "The bytes written are 7 times the look count.", "and the length written is a result"
abbrev pub CopyLength : Type 0
CopyLength =
    (r : Request) (old new : List ℕ) (w : ℕ) → LogGives r old w new → (i : Input) → CopyKept r old i → Gives w 0 0 0 (copy_bytes i r)

-- whatever the sequence in which the looks of an entry follow each other
abbrev pub CopyAnySequence : Type 0
CopyAnySequence =
    (r : Request) (i : Input) → RunningOrder i r.order
    → (s : (entry : ℕ) → List ℕ) → EachLookOnce i r s → length (task_fields (task_of i r.order) s) ≡ copy_bytes i r

-- so many bytes are enough for any copy
abbrev pub CopyMost : Type 0
CopyMost = (r : Request) (i : Input) → Reads r.catalogue r.question i → copy_bytes i r ≤ 917504

-- "an output keeps its further bytes"
abbrev pub CopyFurther : Type 0
CopyFurther =
    (r : Request) (old new : List ℕ) (w : ℕ) → LogGives r old w new → (i : Input) → CopyKept r old i
    → (length new ≡ length old) × (drop (copy_bytes i r) new ≡ drop (copy_bytes i r) old)

-- THE BYTES WRITTEN. "how the looks of one entry follow each other is left to the writer": so no statement here tells it

-- "tag 76, length 4, entry (two bytes), condition number, outcome": document 01's "A field is a one-byte tag, a two-byte length, then that many bytes."
abbrev pub look_field : (entry condition outcome : ℕ) → List ℕ
look_field e c o = 76 ∷ 0 ∷ 4 ∷ e / 256 ∷ e % 256 ∷ c ∷ o ∷ []

-- the seven bytes of an output from place 7 × j on
abbrev pub field_bytes : (output : List ℕ) → (j : ℕ) → List ℕ
field_bytes output j = take 7 (drop (j * 7) output)

-- "Write one field per look": a field is among those written exactly if there is a look at its condition on its entry (order 6: on a withdrawn one there
-- is none) and "outcome (1 yes, 0 no)" is the condition's own there
abbrev pub CopyFieldThere : Type 0
CopyFieldThere =
    (r : Request) (old new : List ℕ) (w : ℕ) → LogGives r old w new → (i : Input) → CopyKept r old i → (e c o : ℕ)
    → ((j : ℕ) × (j < looks_of i r) × (field_bytes new j ≡ look_field e c o))
    ↔ ((e < row_count i) × LookMade i r.order e c × (o ≡ outcome_number (outcome i.catalogue (condition_of i c) e)))

-- order 2: "The steward's copy gains outcome 2 for blank."
abbrev pub CopyBlank : Type 0
CopyBlank =
    (r : Request) (old new : List ℕ) (w : ℕ) → LogGives r old w new → (i : Input) → CopyKept r old i → (e c : ℕ)
    → ((j : ℕ) × (j < looks_of i r) × (field_bytes new j ≡ look_field e c 2)) ↔ ((e < row_count i) × LookMade i r.order e c × BlankAt i e c)

-- "each look has one field": there is nothing but fields among the bytes written, and no field twice
abbrev pub CopyFieldOnce : Type 0
CopyFieldOnce =
    (r : Request) (old new : List ℕ) (w : ℕ) → LogGives r old w new → (i : Input) → CopyKept r old i
    → ((j : ℕ) → j < looks_of i r → (e : ℕ) × (c : ℕ) × (o : ℕ) × (field_bytes new j ≡ look_field e c o))
    × ((j k : ℕ) → j < looks_of i r → k < looks_of i r → field_bytes new j ≡ field_bytes new k → j ≡ k)

-- "Entries ascend"
abbrev pub CopyAscends : Type 0
CopyAscends =
    (r : Request) (old new : List ℕ) (w : ℕ) → LogGives r old w new → (i : Input) → CopyKept r old i
    → (j k : ℕ) → j ≤ k → k < looks_of i r → (e c o e' c' o' : ℕ) → field_bytes new j ≡ look_field e c o → field_bytes new k ≡ look_field e' c' o' → e ≤ e'

-- and of every accepted run of the same request: there is a field for a condition at an entry exactly where the looks table has the look's bit
abbrev pub CopyLooks : Type 0
CopyLooks =
    (r : Request) (old new : List ℕ) (w : ℕ) → LogGives r old w new → (i : Input) → CopyKept r old i → (l : Lent) → l.request ≡ r → Kept l i
    → (e c : ℕ) → e < row_count i → c < predicate_count i
    → ((j : ℕ) × (o : ℕ) × (j < looks_of i r) × (field_bytes new j ≡ look_field e c o)) ↔ (bit (looks_line i (after l).looks c) e ≡ true)
