-- THE THREE DEMANDS, sentence by sentence, over the definitions; proofs/Demands.antt proves each statement of this page.
-- It speaks of the definitions `catalogue_answer`, `question_answer`, `outcome_answer`, `run_of`; an exported call is tied to its definition by its
-- contract, for any bytes lent, and a contract is one of total correctness: the call finishes. `Due`, `Strategy`, its working and `Right` stand on
-- one screen in crates/strategy/specs/Strategy.antt; what document 01 and order 6 allow as a catalogue in crates/catalogue/specs/Formed.antt, what
-- document 01 allows as a question in crates/query/specs/WellFormed.antt, their bytes in Encode.antt beside them.
use Rattle.std.specs.Prelude.{ℕ, ◌+◌, ◌*◌, ◌/◌, ◌%◌, ◌^◌, ◌≤◌, ◌<◌, ◌≡◌, true, false, not, ◌&&◌, ◌||◌, cond, ◌↔◌, ◌⊎◌, List, [], ◌∷◌, ◌++◌, length, get_or, take, drop}
use Rattle.fields.specs.Decoded.{refused, accepted}
use Rattle.fields.specs.Numbers.{number_at, bytes_of, Bytes}
use Rattle.fields.specs.Header.{field_of}
use Rattle.catalogue.specs.Catalogue.{Catalogue, Column, numbers, texts, Mark, unmarked, marked, with_mark, is_withdrawn}
use Rattle.catalogue.specs.Decode.{decode_catalogue}
use Rattle.catalogue.specs.Encode.{encode_catalogue}
use Rattle.catalogue.specs.Formed.{FormedBits, Formed}
use Rattle.predicate.specs.Meaning.{Predicate, truth, outcome_of, column_asked, outcome}
use Rattle.predicate.specs.Payload.{tags_of, valid_payload}
use Rattle.query.specs.Query.{Query}
use Rattle.query.specs.Depth.{depth}
use Rattle.query.specs.Decode.{payload_of, decode_query}
use Rattle.query.specs.Encode.{encode, payloads}
use Rattle.query.specs.WellFormed.{ValidPredicate, WellFormed}
use Rattle.strategy.specs.Tree.{Tree, leaf, Forest, none, more, all, any, eval}
use Rattle.strategy.specs.Assignment.{Assignment, Among}
use Rattle.strategy.specs.Order.{occurrences}
use Rattle.strategy.specs.Strategy.{Formula, Due, State, Strategy, Right, probes, answer_of}
use Rattle.strategy.specs.Ours.{passed_as_no, later_than, ours}
use Rattle.bitmaps.specs.Sums.{sum_of, count_of}
use Rattle.bitmaps.specs.Bitmap.{bytes_for}
use Rattle.bitmaps.specs.Bit.{bit}
use Rattle.task.specs.Task.{predicate_at, assignment_at}
use Rattle.task.specs.Input.{Input, decode_input}
use Rattle.answers.specs.Word.{packed}
use Rattle.answers.specs.Answers.{catalogue_answer, question_answer, outcome_number, outcome_answer}
use Rattle.demands.specs.Sentences.{Sentences, says, NoneFails, FirstFails}
use Rattle.demands.specs.Run.{Request, Lent, Ran, row_count, predicate_count, task_of, look_count, counter_at, run_of}

-- WORDS OF THIS PAGE

-- "An operation's results travel to it packed in one eight-byte number": the number and the results that it holds
abbrev pub Gives : (word number first second third : ℕ) → Type 0
Gives w number first second third =
    (w < 2 ^ 64) × (w % 2 ^ 8 ≡ number) × (w / 2 ^ 8 % 2 ^ 16 ≡ first) × (w / 2 ^ 24 % 2 ^ 16 ≡ second) × (w / 2 ^ 40 ≡ third)

-- the words of the calls that only read
abbrev pub catalogue_word : (catalogue : List ℕ) → ℕ
catalogue_word b = packed (catalogue_answer (decode_catalogue b))

abbrev pub question_word : (catalogue question : List ℕ) → ℕ
question_word b q = packed (question_answer (decode_input b q))

abbrev pub outcome_word : (catalogue question : List ℕ) → (entry condition : ℕ) → ℕ
outcome_word b q entry c = packed (outcome_answer (decode_input b q) entry c)

-- a lent slice is a list of bytes
abbrev pub InBytes : Request → Type 0
InBytes r = Bytes r.catalogue × Bytes r.question

-- what a run leaves: its word and the three tables
abbrev pub after : Lent → Ran
after l = run_of l

-- document 01's "Catalogue", with order 6: these bytes are those of a catalogue as they allow
abbrev pub IsCatalogue : (bytes : List ℕ) → Catalogue → Type 0
IsCatalogue b C = Formed C × (b ≡ encode_catalogue C)

-- document 01's "Question": these bytes are those of a question as it allows on this catalogue
abbrev pub IsQuestion : Catalogue → (bytes : List ℕ) → Query → Type 0
IsQuestion C q Q = WellFormed C Q × (q ≡ encode (payloads Q))

-- catalogue and question break none of 1 to 14 and order 6's 23, and read as this
abbrev pub Reads : (catalogue question : List ℕ) → Input → Type 0
Reads b q i = IsCatalogue b i.catalogue × IsQuestion i.catalogue q i.query

-- or this is the first that they break, as the walk front to back meets it: "Checking a question first gives 1 to 6 for the catalogue, then walks the
-- question."; order 6 adds 23 to the catalogue's
abbrev pub FormBroken : (catalogue question : List ℕ) → ℕ → Type 0
FormBroken b q e = (decode_catalogue b ≡ refused e) ⊎ ((C : Catalogue) × (decode_catalogue b ≡ accepted C) × (decode_query C q ≡ refused e))

-- a call on a catalogue and a question, with checks of its own on what they read as: it breaks nothing
pub record Keeps (catalogue question : List ℕ) (own : Input → Sentences) (i : Input) : Type 0 where
  pub forms : Reads catalogue question i
  pub checks : NoneFails (own i)

-- or this is the first check that fails: "The first failing check in the stated order decides.", those of the bytes before its own
pub data Breaks (catalogue question : List ℕ) (own : Input → Sentences) (e : ℕ) : Type 0 where
  bad_form : FormBroken catalogue question e → Breaks catalogue question own e
  bad_check : (i : Input) → Reads catalogue question i → FirstFails (own i) e → Breaks catalogue question own e

-- "Working out one condition: 1 to 14, then 18, no such entry or condition.", order 6's 23 with 1 to 14
abbrev pub outcome_sentences : (entry c : ℕ) → Input → Sentences
outcome_sentences entry c i = says 18 ((entry < row_count i) × (c < predicate_count i)) ∷ []

-- "A running order is n bytes holding each condition number once."
abbrev pub RunningOrder : Input → (order : List ℕ) → Type 0
RunningOrder i order = (length order ≡ predicate_count i) × ((c : ℕ) → c < predicate_count i → occurrences c order ≡ 1)

-- "The listed table takes ceiling(E / 8) bytes"; "The looks table holds one such row for each condition": a row of bits is a line on this page,
-- and rows are entries
abbrev pub line_bytes : Input → ℕ
line_bytes i = bytes_for (row_count i)

abbrev pub TablesFit : Input → (listed looks : List ℕ) → Type 0
TablesFit i listed looks = (line_bytes i ≤ length listed) × (predicate_count i * line_bytes i ≤ length looks)

-- order 7: "a run names its reader, 0 to 15"
abbrev pub IsReader : (reader : ℕ) → Type 0
IsReader reader = reader ≤ 15

-- order 7: "Refusal 17 is for a tally not of 128 bytes or a sum too large for this reader": `counter_at` is a reader's number, of eight bytes
abbrev pub TallyFits : Input → (order : List ℕ) → (reader : ℕ) → (tally : List ℕ) → Type 0
TallyFits i order reader tally = (length tally ≡ 128) × (counter_at tally reader + look_count (task_of i order) < 2 ^ 64)

-- a reader's eight bytes of a tally
abbrev pub counter_bytes : (tally : List ℕ) → (reader : ℕ) → List ℕ
counter_bytes tally reader = take 8 (drop (reader * 8) tally)

-- "Running: 1 to 14; 15, ..; 16, ..; 17, ..", with order 6's 23 before 15 and order 7's "24, reader over 15, after 16"
abbrev pub run_sentences : Lent → Input → Sentences
run_sentences l i =
    says 15 (RunningOrder i l.request.order)
    ∷ says 16 (TablesFit i l.listed l.looks)
    ∷ says 24 (IsReader l.reader)
    ∷ says 17 (TallyFits i l.request.order l.reader l.tally)
    ∷ []

-- a run that breaks nothing, and the first that it breaks
abbrev pub Kept : Lent → Input → Type 0
Kept l i = Keeps l.request.catalogue l.request.question (run_sentences l) i

abbrev pub FirstBroken : Lent → (e : ℕ) → Type 0
FirstBroken l e = Breaks l.request.catalogue l.request.question (run_sentences l) e

-- a condition of the question
abbrev pub condition_of : Input → (c : ℕ) → Predicate
condition_of i c = predicate_at i.query c

-- order 6: "the entries still in the house"
abbrev pub Present : Input → (entry : ℕ) → Type 0
Present i e = is_withdrawn i.catalogue e ≡ false

-- n for an entry still in the house, 0 for a withdrawn one
abbrev pub if_present : Input → (entry n : ℕ) → ℕ
if_present i e n = cond (is_withdrawn i.catalogue e) 0 n

-- "4,294,967,295 means blank", "length 0 means blank"
abbrev pub BlankField : Column → (entry : ℕ) → Type 0
BlankField (numbers ns) e = get_or ns e 0 ≡ 4294967295
BlankField (texts ts) e = length (get_or ts e []) ≡ 0

-- order 2's "for kinds 0 and 2 to 4 and for 128 and 130 to 132". "Kinds 1, 5, 129 and 133 never answer blank."
abbrev pub MayAnswerBlank : (kind : ℕ) → Type 0
MayAnswerBlank kind = (kind ≡ 0) ⊎ ((2 ≤ kind) × (kind ≤ 4)) ⊎ (kind ≡ 128) ⊎ ((130 ≤ kind) × (kind ≤ 132))

-- the condition answers blank at the entry: its field there is blank, and its kind is one of these
abbrev pub BlankAt : Input → (entry c : ℕ) → Type 0
BlankAt i e c = BlankField (column_asked i.catalogue (condition_of i c)) e × MayAnswerBlank (condition_of i c).kind

-- "On an entry of a run the pattern is that entry's true outcomes": each condition's by document 01's rules and order 2's, "A run takes blank as no",
-- "lists and looks are judged by these outcomes from here on"
abbrev pub pattern : Input → (entry : ℕ) → Assignment
pattern i e = assignment_at i.catalogue i.query e

abbrev pub tree_value : Input → Formula
tree_value i = eval i.query.tree

-- on a pattern: "with the conditions earlier in the order at their true outcomes, some outcomes of the later ones make this condition alone
-- decide the tree"
abbrev pub LookDue : Input → (order : List ℕ) → Assignment → (c : ℕ) → Type 0
LookDue i order a c = (earlier : List ℕ) × (later : List ℕ) × (order ≡ earlier ++ (c ∷ later)) × Due (tree_value i) c later a

-- a look that is made: it is due, and its entry still in the house; order 6 has a withdrawn one "never looked at"
abbrev pub LookMade : Input → (order : List ℕ) → (entry c : ℕ) → Type 0
LookMade i order e c = Present i e × LookDue i order (pattern i e) c

-- "entry e is the bit of weight 2^(e mod 8) in byte e div 8, unused bits zero": the line of the entries for which P holds
pub record LineOf (P : ℕ → Type 0) (entries : ℕ) (line : List ℕ) : Type 0 where
  pub size : length line ≡ bytes_for entries
  pub bytes : Bytes line
  pub bits : (e : ℕ) → e < entries → (bit line e ≡ true) ↔ P e
  pub unused : (e : ℕ) → entries ≤ e → bit line e ≡ false

-- the line of the listed table, and a condition's line of the looks table
abbrev pub listed_line : Input → (listed : List ℕ) → List ℕ
listed_line i listed = take (line_bytes i) listed

abbrev pub looks_line : Input → (looks : List ℕ) → (c : ℕ) → List ℕ
looks_line i looks c = take (line_bytes i) (drop (c * line_bytes i) looks)

-- DEMAND 1: WHAT IS ACCEPTED

-- what is accepted, for every list of bytes: exactly the catalogues as document 01 and order 6 allow them, each by its own bytes; and there is a refusal
-- exactly if the bytes are those of none
abbrev pub Demand1CatalogueForm : Type 0
Demand1CatalogueForm =
    (b : List ℕ) → Bytes b
    → ((C : Catalogue) → (decode_catalogue b ≡ accepted C) ↔ IsCatalogue b C)
    × (((e : ℕ) × (decode_catalogue b ≡ refused e)) ↔ ((C : Catalogue) → IsCatalogue b C → ⊥))

-- the same of questions, on any catalogue
abbrev pub Demand1QuestionForm : Type 0
Demand1QuestionForm =
    (C : Catalogue) (q : List ℕ) → Bytes q
    → ((Q : Query) → (decode_query C q ≡ accepted Q) ↔ IsQuestion C q Q)
    × (((e : ℕ) × (decode_query C q ≡ refused e)) ↔ ((Q : Query) → IsQuestion C q Q → ⊥))

-- "11, payload under two bytes, no such column, unknown kind, kind not fitting the column, or operand of wrong length or range": the check of a
-- payload passes exactly the valid conditions
abbrev pub Demand1Payload : Type 0
Demand1Payload =
    (C : Catalogue) (payload : List ℕ) → (valid_payload (tags_of C) payload ≡ true) ↔ ((p : Predicate) × ValidPredicate C p × (payload ≡ payload_of p))

-- so every catalogue as document 01 and order 6 allow, and every question on it, has bytes that are accepted: no engine that declines one of them passes
abbrev pub Demand1FormsWritten : Type 0
Demand1FormsWritten =
    (C : Catalogue) → Formed C
    → Bytes (encode_catalogue C) × (decode_catalogue (encode_catalogue C) ≡ accepted C)
    × ((Q : Query) → WellFormed C Q → Bytes (encode (payloads Q)) × (decode_query C (encode (payloads Q)) ≡ accepted Q))

-- and one encoding only: bytes of two are bytes of one
abbrev pub Demand1WrittenOnce : Type 0
Demand1WrittenOnce =
    ((C C' : Catalogue) → Formed C → Formed C' → encode_catalogue C ≡ encode_catalogue C' → C ≡ C')
    × ((C : Catalogue) (Q Q' : Query) → WellFormed C Q → WellFormed C Q' → encode (payloads Q) ≡ encode (payloads Q') → Q ≡ Q')

-- order 6: "A catalogue may end with one field, .. ceiling(E / 8) bytes, set out like the listed table; a one bit marks a withdrawn entry": the bytes
-- are the line of the withdrawn entries, and without the field no entry is withdrawn
abbrev pub Demand1Mark : Type 0
Demand1Mark =
    (C : Catalogue) → Formed C
    → ((m : List ℕ) → C.mark ≡ marked m → LineOf (λ e. is_withdrawn C e ≡ true) C.rows m)
    × (C.mark ≡ unmarked → (e : ℕ) → is_withdrawn C e ≡ false)

-- of bytes that begin with a field the length that it declares, where a missing byte reads as 0, and the payload of that length
abbrev pub declared_size : (bytes : List ℕ) → ℕ
declared_size bytes = number_at bytes 1 2

abbrev pub declared_payload : (bytes : List ℕ) → List ℕ
declared_payload bytes = take (declared_size bytes) (drop 3 bytes)

-- order 6: "where byte 87 follows the last column, 1 comes first, then 23, a wrong length or a stray bit; 6 is for any other byte there, or bytes after the
-- mark": whatever bytes follow the columns of a catalogue, this comes of them
abbrev pub Demand1AfterColumns : Type 0
Demand1AfterColumns =
    (C : Catalogue) → Formed C → C.mark ≡ unmarked → (tail : List ℕ) → Bytes tail
    → (0 < length tail → (get_or tail 0 0 ≡ 87 → ⊥) → decode_catalogue (encode_catalogue C ++ tail) ≡ refused 6)
    × (get_or tail 0 0 ≡ 87
    → (length tail < 3 + declared_size tail → decode_catalogue (encode_catalogue C ++ tail) ≡ refused 1)
    × (3 + declared_size tail ≤ length tail → (FormedBits C.rows (declared_payload tail) → ⊥) → decode_catalogue (encode_catalogue C ++ tail) ≡ refused 23)
    × (3 + declared_size tail < length tail → FormedBits C.rows (declared_payload tail) → decode_catalogue (encode_catalogue C ++ tail) ≡ refused 6)
    × (3 + declared_size tail ≡ length tail → FormedBits C.rows (declared_payload tail)
    → decode_catalogue (encode_catalogue C ++ tail) ≡ accepted (with_mark C (marked (declared_payload tail)))))

-- "Checking a catalogue walks front to back.": every refusal but 1, a field that is cut, is the same whatever bytes follow; so a slot's 5 comes before a
-- mark's 23, and that before 6
abbrev pub Demand1FrontToBack : Type 0
Demand1FrontToBack = (b tail : List ℕ) (e : ℕ) → (e ≡ 1 → ⊥) → decode_catalogue b ≡ refused e → decode_catalogue (b ++ tail) ≡ refused e

-- "The question is one field of these."; "At the end: 14, bytes left over.": whatever follows a question
abbrev pub Demand1AfterQuestion : Type 0
Demand1AfterQuestion =
    (C : Catalogue) (Q : Query) → WellFormed C Q → (tail : List ℕ) → 0 < length tail → decode_query C (encode (payloads Q) ++ tail) ≡ refused 14

-- "The question is one field of these.": bytes that end before that field does are refused by 7; else a refusal is the same whatever bytes follow
abbrev pub Demand1QuestionField : Type 0
Demand1QuestionField =
    (C : Catalogue) (q : List ℕ)
    → (length q < 3 + declared_size q → decode_query C q ≡ refused 7)
    × (3 + declared_size q ≤ length q → (e : ℕ) → decode_query C q ≡ refused e → (tail : List ℕ) → decode_query C (q ++ tail) ≡ refused e)

-- "then walks the question", front to back: a refusal for what the outermost group holds so far, but for 7, a field that is cut, stays whatever more it
-- holds behind that
abbrev pub Demand1QuestionWalk : Type 0
Demand1QuestionWalk =
    (C : Catalogue) (tag : ℕ) (members more : List ℕ) (e : ℕ) → (tag ≡ 65) ⊎ (tag ≡ 79) → 0 < length members → length (members ++ more) < 65536
    → (e ≡ 7 → ⊥) → decode_query C (field_of tag members) ≡ refused e → decode_query C (field_of tag (members ++ more)) ≡ refused e

-- DEMAND 1: THE CALLS

-- "Where a catalogue, question, order, number or lent table breaks a form or limit of document 01, the call gives the refusal number due there,"
abbrev pub Demand1Number : Type 0
Demand1Number = (l : Lent) → InBytes l.request → (e : ℕ) → 0 < e → ((after l).word % 2 ^ 8 ≡ e) ↔ FirstBroken l e

-- "zero counts, and unaltered lent bytes;"
abbrev pub Demand1Refused : Type 0
Demand1Refused =
    (l : Lent) (e : ℕ) → FirstBroken l e
    → Gives (after l).word e 0 0 0 × ((after l).listed ≡ l.listed) × ((after l).looks ≡ l.looks) × ((after l).tally ≡ l.tally)

-- "where none is broken it is accepted and finishes." "Accepted is 0"
-- "Nothing is left to the caller to verify beforehand.": every `Lent` is spoken of, and a slice that is lent holds bytes
abbrev pub Demand1Accepted : Type 0
Demand1Accepted = (l : Lent) → InBytes l.request → ((after l).word % 2 ^ 8 ≡ 0) ↔ ((i : Input) × Kept l i)

-- "a catalogue check gives E and C"
abbrev pub Demand1Catalogue : Type 0
Demand1Catalogue =
    (b : List ℕ)
    → ((e : ℕ) → decode_catalogue b ≡ refused e → Gives (catalogue_word b) e 0 0 0)
    × ((C : Catalogue) → IsCatalogue b C → Gives (catalogue_word b) 0 C.rows (length C.columns) 0)

-- "a question check n"
abbrev pub Demand1Question : Type 0
Demand1Question =
    (b q : List ℕ)
    → ((e : ℕ) → FormBroken b q e → Gives (question_word b q) e 0 0 0)
    × ((i : Input) → Reads b q i → Gives (question_word b q) 0 (predicate_count i) 0 0)

-- "one condition 1 (yes) or 0", order 2's "2 for blank"
abbrev pub Demand1Outcome : Type 0
Demand1Outcome =
    (b q : List ℕ) (entry c : ℕ)
    → ((e : ℕ) → Breaks b q (outcome_sentences entry c) e → Gives (outcome_word b q entry c) e 0 0 0)
    × ((i : Input) → Keeps b q (outcome_sentences entry c) i
    → Gives (outcome_word b q entry c) 0 (outcome_number (outcome i.catalogue (condition_of i c) entry)) 0 0)

-- the numbers of a catalogue are 1 to 6 and order 6's 23, those of a question 7 to 14, and what is accepted keeps the limits: entries, columns,
-- conditions, depth
abbrev pub Demand1Limits : Type 0
Demand1Limits =
    ((b : List ℕ) (e : ℕ) → decode_catalogue b ≡ refused e → ((1 ≤ e) × (e ≤ 6)) ⊎ (e ≡ 23))
    × ((C : Catalogue) (q : List ℕ) (e : ℕ) → decode_query C q ≡ refused e → (7 ≤ e) × (e ≤ 14))
    × ((b q : List ℕ) (i : Input) → Reads b q i
    → (row_count i ≤ 2048) × (1 ≤ length i.catalogue.columns) × (length i.catalogue.columns ≤ 16)
    × (1 ≤ predicate_count i) × (predicate_count i ≤ 64) × (depth i.query.tree ≤ 8))

-- DEMAND 2

-- order 2: "Working out a condition therefore answers yes, no or 2 for blank."
abbrev pub Demand2Blank : Type 0
Demand2Blank =
    (b q : List ℕ) (i : Input) → Reads b q i → (entry c : ℕ) → entry < row_count i → c < predicate_count i
    → Gives (outcome_word b q entry c) 0 2 0 0 ↔ BlankAt i entry c

-- order 2: "A run takes blank as no": the pattern has a yes exactly where working out the condition answers 1
abbrev pub Demand2AsNo : Type 0
Demand2AsNo =
    (b q : List ℕ) (i : Input) → Reads b q i → (entry c : ℕ) → entry < row_count i → c < predicate_count i
    → (pattern i entry c ≡ true) ↔ Gives (outcome_word b q entry c) 0 1 0 0

-- order 2: "a blank field meets neither a condition nor its opposite"; elsewhere "the opposite outcome of 0 to 5" is still the opposite
abbrev pub Demand2Opposite : Type 0
Demand2Opposite =
    (column : Column) (kind : ℕ) (o : List ℕ) (e : ℕ) → kind < 128
    → (BlankField column e × MayAnswerBlank kind → (truth (outcome_of column kind o e) ≡ false) × (truth (outcome_of column (kind + 128) o e) ≡ false))
    × ((BlankField column e × MayAnswerBlank kind → ⊥) → truth (outcome_of column (kind + 128) o e) ≡ not (truth (outcome_of column kind o e)))

-- order 6: "Working out a single condition there goes on as before.": on catalogues that differ in the mark alone, with any question, entry and
-- condition, both checks and the outcome give the same word
abbrev pub Demand2AsBefore : Type 0
Demand2AsBefore =
    (b b' : List ℕ) (C : Catalogue) (m : Mark) → IsCatalogue b C → IsCatalogue b' (with_mark C m)
    → (catalogue_word b ≡ catalogue_word b') × ((q : List ℕ) → question_word b q ≡ question_word b' q)
    × ((q : List ℕ) (entry c : ℕ) → outcome_word b q entry c ≡ outcome_word b' q entry c)

-- "the question's tree, read as document 000 reads a boolean formula": each member of an all-of group, some member of an any-of group
abbrev pub Demand2Tree : Type 0
Demand2Tree =
    (a : Assignment)
    → ((c : ℕ) → eval (leaf c) a ≡ a c)
    × (eval (all none) a ≡ true) × ((t : Tree ℕ) (f : Forest ℕ) → eval (all (more t f)) a ≡ (eval t a && eval (all f) a))
    × (eval (any none) a ≡ false) × ((t : Tree ℕ) (f : Forest ℕ) → eval (any (more t f)) a ≡ (eval t a || eval (any f) a))

-- "An entry is listed exactly if the question's tree .. holds of it under document 01's rules for conditions."; order 6: "The rule on listing .. [is] about
-- the entries still in the house"
abbrev pub Demand2Listed : Type 0
Demand2Listed =
    (l : Lent) (i : Input) → Kept l i
    → LineOf (λ e. Present i e × (tree_value i (pattern i e) ≡ true)) (row_count i) (listed_line i (after l).listed)

-- "A look is registered exactly if, with the conditions earlier in the order at their true outcomes, some outcomes of the later ones make
-- this condition alone decide the tree."; order 6: a withdrawn entry is "never looked at"
abbrev pub Demand2Looks : Type 0
Demand2Looks =
    (l : Lent) (i : Input) → Kept l i → (c : ℕ) → c < predicate_count i
    → LineOf (λ e. LookMade i l.request.order e c) (row_count i) (looks_line i (after l).looks c)

-- order 6: "Such an entry is never listed and never looked at, whatever the question."
abbrev pub Demand2Withdrawn : Type 0
Demand2Withdrawn =
    (l : Lent) (i : Input) → Kept l i → (e : ℕ) → e < row_count i → (Present i e → ⊥)
    → (bit (listed_line i (after l).listed) e ≡ false) × ((c : ℕ) → c < predicate_count i → bit (looks_line i (after l).looks c) e ≡ false)

-- "The counts are those of listed entries and of looks."
abbrev pub Demand2Counts : Type 0
Demand2Counts =
    (l : Lent) (i : Input) → Kept l i
    → Gives (after l).word 0 (count_of (bit (listed_line i (after l).listed)) (row_count i)) 0
    (sum_of (λ c. count_of (bit (looks_line i (after l).looks c)) (row_count i)) (predicate_count i))

-- "at most E × n"; "a run adds its look count to it", order 7: to its reader's number, and its eight bytes are those of the sum
abbrev pub Demand2Tally : Type 0
Demand2Tally =
    (l : Lent) (i : Input) → Kept l i
    → ((after l).word / 2 ^ 40 ≡ look_count (task_of i l.request.order)) × (look_count (task_of i l.request.order) ≤ row_count i * predicate_count i)
    × (counter_at (after l).tally l.reader ≡ counter_at l.tally l.reader + look_count (task_of i l.request.order))
    × (counter_bytes (after l).tally l.reader ≡ bytes_of 8 (counter_at (after l).tally l.reader))

-- order 7: "Only that reader's number grows.": every other byte of the 128 stays
abbrev pub Demand2OtherReaders : Type 0
Demand2OtherReaders =
    (l : Lent) (i : Input) → Kept l i
    → (length (after l).tally ≡ 128) × ((r : ℕ) → (r ≡ l.reader → ⊥) → counter_bytes (after l).tally r ≡ counter_bytes l.tally r)

-- "Longer tables keep their further bytes."
abbrev pub Demand2Further : Type 0
Demand2Further =
    (l : Lent) (i : Input) → Kept l i
    → (drop (line_bytes i) (after l).listed ≡ drop (line_bytes i) l.listed)
    × (drop (predicate_count i * line_bytes i) (after l).looks ≡ drop (predicate_count i * line_bytes i) l.looks)

-- DEMAND 3

-- "Take any accepted question, any running order of its conditions, and any way of working through them that is right whatever the pattern of
-- outcomes: on every pattern it makes each look that ours makes, and so at least as many."
-- "A way chooses at each condition in turn whether to look, and at the end its answer, from the question, the order, its place there and what
-- it has seen on that entry.": a `Strategy`, chosen after question and order; its looks are its `probes`.
-- "A pattern is any yes or no for each condition, as if they were unconnected.": an `Assignment`.
abbrev pub Demand3 : Type 0
Demand3 =
    (b q : List ℕ) (i : Input) → Reads b q i → (order : List ℕ) → RunningOrder i order
    → (way : Strategy) → Right (tree_value i) order way → (a : Assignment)
    → ((c : ℕ) → Among c (probes (ours (tree_value i) order) a order) → Among c (probes way a order))
    × (length (probes (ours (tree_value i) order) a order) ≤ length (probes way a order))

-- "Ours is a way, and right whatever the pattern.": "on every pattern these looks and this answer are those of demand 2"
abbrev pub Demand3Ours : Type 0
Demand3Ours =
    (b q : List ℕ) (i : Input) → Reads b q i → (order : List ℕ) → RunningOrder i order → (a : Assignment)
    → ((c : ℕ) → Among c (probes (ours (tree_value i) order) a order) ↔ LookDue i order a c)
    × (answer_of (ours (tree_value i) order) a order ≡ tree_value i a)

-- "Ours as a way takes each condition it has passed as no. It looks where the condition then alone decides the tree for some outcomes of the later ones; its
-- answer is the tree's value.": whatever it has seen
abbrev pub Demand3OursRule : Type 0
Demand3OursRule =
    (i : Input) (order : List ℕ) (seen : State)
    → ((c : ℕ) → ((ours (tree_value i) order).probe c seen ≡ true) ↔ Due (tree_value i) c (later_than c order) (passed_as_no seen))
    × ((ours (tree_value i) order).answer seen ≡ tree_value i (passed_as_no seen))

-- "A way's looks over all the entries are the sum of the numbers of its looks on each.": those of ours are the look count; order 6: "the comparison with
-- other ways of working [is] about the entries still in the house"
abbrev pub Demand3Count : Type 0
Demand3Count =
    (b q : List ℕ) (i : Input) → Reads b q i → (order : List ℕ) → RunningOrder i order
    → look_count (task_of i order) ≡ sum_of (λ e. if_present i e (length (probes (ours (tree_value i) order) (pattern i e) order))) (row_count i)

-- "For every accepted run and every such way for its question and order, the looks registered on an entry are among those the way makes there,
-- and the look count is at most the way's looks over all the entries.": order 6, over those still in the house; what a way looks at on a withdrawn
-- entry does not count for it
abbrev pub Demand3Run : Type 0
Demand3Run =
    (l : Lent) (i : Input) → Kept l i → (way : Strategy) → Right (tree_value i) l.request.order way
    → ((e c : ℕ) → e < row_count i → c < predicate_count i → bit (looks_line i (after l).looks c) e ≡ true → Among c (probes way (pattern i e) l.request.order))
    × ((after l).word / 2 ^ 40 ≤ sum_of (λ e. if_present i e (length (probes way (pattern i e) l.request.order))) (row_count i))
