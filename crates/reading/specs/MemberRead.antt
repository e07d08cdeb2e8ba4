-- The contracts of `read_member` and `read_group`: answer and tables are those of the reading.
use Rattle.std.specs.Prelude.{ℕ, ◌+◌, ◌-◌, ◌*◌, ◌≤◌, ◌<◌, ◌≡◌, List, ◌++◌, length, Result, Ok, IfOk, IsOkAnd, IsErrAnd}
use Rattle.fields.specs.Decoded.{refused, accepted}
use Rattle.fields.specs.Header.{header_size}
use Rattle.strategy.specs.Tree.{Tree, Forest, InSpan}
use Rattle.strategy.specs.Propagation.{Ancestor, enclosing, enclosing_in}
use Rattle.predicate.specs.Meaning.{Predicate}
use Rattle.reading.specs.declared.member.Progress.{Progress}
use Rattle.query.specs.declared.refusal.Refusal.{Refusal}
use Rattle.query.specs.Refusal.{refusal_number}
use Rattle.query.specs.Format.{predicate_limit, depth_limit}
use Rattle.query.specs.Decode.{Read, member, members}
use Rattle.records.specs.Offsets.{HasPayload, HasFields}
use Rattle.records.specs.Table.{predicates_at}
use Rattle.reading.specs.declared.tables.Tables.{Tables}
use Rattle.reading.specs.Tables.{HasTables}
use Rattle.ancestors.specs.Ancestors.{ancestors_size, ancestors_of, Low, Under, SameHeights, Spans}

-- an accepted reading's answer: the place after what was read, and the number of predicates up to there
abbrev pub progress : (at n : ℕ) → Result Progress Refusal
progress at n = Ok (record { at = at; n = n })

-- the answer refuses by this number
abbrev pub RefusedBy : {A : Type 0} → (e : ℕ) → Result A Refusal → Type 0
RefusedBy e r = IsErrAnd r (λ d. refusal_number d ≡ e)

-- the ancestors of the first n are as they were, those of the k read are their groups
pub record AncestorsGained (n k : ℕ) (around : ℕ → List Ancestor) (T T' : Tables) : Type 0 where
  pub old : (c : ℕ) → c < n → ancestors_of T'.ancestors c ≡ ancestors_of T.ancestors c
  pub new : (c : ℕ) → InSpan n k c → ancestors_of T'.ancestors c ≡ around c

-- the predicates `ps` read: the answer counts them, and the tables show them after the first n
pub record PredicatesGained (q : List ℕ) (around : ℕ → List Ancestor) (n : ℕ) (ps : List Predicate) (next : ℕ) (r : Result Progress Refusal) (T T' : Tables) : Type 0 where
  pub answer : IsOkAnd r (λ p. (p.at ≡ next) × (p.n ≡ n + length ps))
  pub shown : predicates_at q T'.offsets (n + length ps) ≡ predicates_at q T.offsets n ++ ps
  pub ancestors : AncestorsGained n (length ps) around T T'

-- r is the answer to a reading that began with n predicates in the tables T, and T' are the tables then
abbrev pub Reported : {A : Type 0} → (q : List ℕ) → (A → ℕ → ℕ → List Ancestor) → (n : ℕ) → Read A → Result Progress Refusal → Tables → Tables → Type 0
Reported q around n (refused e) r T T' = RefusedBy e r
Reported q around n (accepted (t, ps, next)) r T T' = PredicatesGained q (around t n) n ps next r T T'

-- a reading that is past `at`, still within `end` and within the limits
pub record Advanced (at end depth n : ℕ) (q : List ℕ) (next m : ℕ) (T T' : Tables) : Type 0 where
  pub past : at ≤ next
  pub inside : next ≤ end
  pub more : n ≤ m
  pub few : m ≤ predicate_limit
  pub each : (c : ℕ) → c < m → HasPayload q T'.offsets c
  pub low : Low m T'.ancestors
  pub under : Under n m depth T'.ancestors
  pub kept : SameHeights n T.ancestors T'.ancestors
  pub spans : Spans m T'.ancestors
  pub sized : HasTables T'

abbrev pub StaysWithin : (at end depth n : ℕ) → (q : List ℕ) → Result Progress Refusal → Tables → Tables → Type 0
StaysWithin at end depth n q r T T' = IfOk r (λ p. Advanced at end depth n q p.at p.n T T')

-- the member at a place, and the members from a place on, at every fuel that is enough
abbrev pub MemberReported : (tags q : List ℕ) → (at end depth n : ℕ) → Result Progress Refusal → Tables → Tables → Type 0
MemberReported tags q at end depth n r T T' =
    (f : ℕ) → 2 * (end - at) < f → Reported {A = Tree ℕ} q enclosing n (member f tags q at end depth (predicates_at q T.offsets n)) r T T'

abbrev pub MembersReported : (tags q : List ℕ) → (at end depth n : ℕ) → Result Progress Refusal → Tables → Tables → Type 0
MembersReported tags q at end depth n r T T' =
    (f : ℕ) → 2 * (end - at) + 1 < f → Reported {A = Forest ℕ} q enclosing_in n (members f tags q at end depth (predicates_at q T.offsets n)) r T T'

-- the contract of `read_member`, and of `read_group`
pub record MemberRead (tags q : List ℕ) (at end depth n : ℕ) (r : Result Progress Refusal) (T T' : Tables) : Type 0 where
  pub within : StaysWithin (at + header_size) end depth n q r T T'
  pub exact : MemberReported tags q at end depth n r T T'

pub record MembersRead (tags q : List ℕ) (at end depth n : ℕ) (r : Result Progress Refusal) (T T' : Tables) : Type 0 where
  pub within : StaysWithin at end depth n q r T T'
  pub exact : MembersReported tags q at end depth n r T T'

-- what a reading asks
pub record Readable (at end allowed n : ℕ) (q : List ℕ) (T : Tables) : Type 0 where
  pub order : at ≤ end
  pub inside : end ≤ length q
  pub deep : allowed ≤ depth_limit
  pub located : HasFields q T.offsets n
  pub ancestors : length T.ancestors ≡ ancestors_size
  pub low : Low n T.ancestors
  pub spans : Spans n T.ancestors
