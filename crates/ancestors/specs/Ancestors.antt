-- The groups around each predicate as the engine holds them: a line of bytes for each predicate, the innermost group first.
use Rattle.std.specs.Prelude.{ℕ, zero, suc, ◌+◌, ◌-◌, ◌*◌, ◌≤◌, ◌<◌, ◌≡◌, List, [], ◌∷◌, ◌++◌, length, get_or}
use Rattle.strategy.specs.Propagation.{Ancestor}
use Rattle.query.specs.Format.{predicate_limit, depth_limit}
use Rattle.query.specs.Decode.{settling_of}
use Rattle.ancestors.specs.declared.Ancestor as read

-- an ancestor is three bytes: its first predicate, the end of its predicates, its tag
abbrev pub ancestor_size : ℕ
ancestor_size = 3

-- a line: the number of ancestors, then each
abbrev pub ancestors_width : ℕ
ancestors_width = 1 + ancestor_size * depth_limit

abbrev pub ancestors_size : ℕ
ancestors_size = ancestors_width * predicate_limit

-- how many ancestors predicate c has
abbrev pub height_at : (table : List ℕ) → (c : ℕ) → ℕ
height_at A c = get_or A (ancestors_width * c) 0

-- where ancestor k of predicate c stands
abbrev pub ancestor_place : (c k : ℕ) → ℕ
ancestor_place c k = ancestors_width * c + 1 + ancestor_size * k

-- the group of the predicates from `first` up to `end`
abbrev pub ancestor_over : (first end tag : ℕ) → Ancestor
ancestor_over first end tag = record { settling = settling_of tag; first = first; count = end - first }

-- the ancestor that the three bytes from place i on are
abbrev pub ancestor_at : (table : List ℕ) → (i : ℕ) → Ancestor
ancestor_at A i = ancestor_over (get_or A i 0) (get_or A (i + 1) 0) (get_or A (i + 2) 0)

-- an ancestor as the engine reads it
abbrev pub ancestor_of : read.Ancestor → Ancestor
ancestor_of a = record { settling = a.settling; first = a.first; count = a.count }

unfoldable pub ancestors_from : (table : List ℕ) → (i n : ℕ) → List Ancestor
ancestors_from A i zero = []
ancestors_from A i (suc n) = ancestor_at A i ∷ ancestors_from A (i + ancestor_size) n

-- the ancestors of predicate c
abbrev pub ancestors_of : (table : List ℕ) → (c : ℕ) → List Ancestor
ancestors_of A c = ancestors_from A (ancestors_width * c + 1) (height_at A c)

-- the first n predicates have at most eight ancestors
abbrev pub Low : (n : ℕ) → (table : List ℕ) → Type 0
Low n A = (c : ℕ) → c < n → height_at A c ≤ depth_limit

-- the predicates from n up to m have room for d ancestors more
abbrev pub Under : (n m d : ℕ) → (table : List ℕ) → Type 0
Under n m d A = (c : ℕ) → n ≤ c → c < m → height_at A c + d ≤ depth_limit

-- the first n predicates have as many ancestors as they had
abbrev pub SameHeights : (n : ℕ) → (before after : List ℕ) → Type 0
SameHeights n A A' = (c : ℕ) → c < n → height_at A' c ≡ height_at A c

-- the three bytes from place i on are a span of predicates below n
abbrev pub IsSpan : (n : ℕ) → (table : List ℕ) → (i : ℕ) → Type 0
IsSpan n A i = (get_or A i 0 ≤ get_or A (i + 1) 0) × (get_or A (i + 1) 0 ≤ n)

-- every ancestor of the first n predicates is a span of predicates below n
abbrev pub Spans : (n : ℕ) → (table : List ℕ) → Type 0
Spans n A = (c k : ℕ) → c < n → k < height_at A c → IsSpan n A (ancestor_place c k)

-- what closing a group asks: its predicates from `a` up to `m` are the last ones read, and each has room for one ancestor more
pub record Closable (a m : ℕ) (A : List ℕ) : Type 0 where
  pub order : a ≤ m
  pub few : m ≤ predicate_limit
  pub sized : length A ≡ ancestors_size
  pub low : Low m A
  pub under : Under a m 1 A
  pub spans : Spans m A

-- one ancestor more, the group of the predicates from `a` up to `m`, for those from `a` up to `k`
pub record Closed (a k m tag : ℕ) (A A' : List ℕ) : Type 0 where
  pub inside : (c : ℕ) → a ≤ c → c < k → ancestors_of A' c ≡ ancestors_of A c ++ (ancestor_over a m tag ∷ [])
  pub before : (c : ℕ) → c < a → ancestors_of A' c ≡ ancestors_of A c
  pub after : (c : ℕ) → k ≤ c → c < m → ancestors_of A' c ≡ ancestors_of A c
  pub taller : (c : ℕ) → a ≤ c → c < k → height_at A' c ≡ height_at A c + 1
  pub same_before : (c : ℕ) → c < a → height_at A' c ≡ height_at A c
  pub same_after : (c : ℕ) → k ≤ c → height_at A' c ≡ height_at A c
  pub low : Low m A'
  pub spans : Spans m A'
