-- A query's tree over any kind of leaf, and its value.
use Rattle.std.specs.Prelude.{ℕ, ◌+◌, ◌≤◌, ◌<◌, ◌≡◌, Bool, true, false, ◌&&◌, ◌||◌, not}

-- a leaf is a predicate; a group has the outcome that settles it alone, and its members
mutual
  pub data Tree (A : Type 0) : Type 0 where
    leaf : A → Tree A
    group : Bool → Forest A → Tree A

  pub data Forest (A : Type 0) : Type 0 where
    none : Forest A
    more : Tree A → Forest A → Forest A

-- an all-of group (conjunction): a no settles it
abbrev pub all : {A : Type 0} → Forest A → Tree A
all f = group false f

-- an any-of group (disjunction): a yes settles it
abbrev pub any : {A : Type 0} → Forest A → Tree A
any f = group true f

-- the values of two members in a group that `k` settles: and, or
abbrev pub join : Bool → Bool → Bool → Bool
join false x y = x && y
join true x y = x || y

-- does the outcome `v` of a member settle a group that `k` settles
abbrev pub settles : Bool → Bool → Bool
settles false v = not v
settles true v = v

-- the value of a tree, from the outcomes at its leaves
unfoldable mutual
  pub eval : {A : Type 0} → Tree A → (A → Bool) → Bool
  eval (leaf x) a = a x
  eval (group k f) a = evals f k a

  pub evals : {A : Type 0} → Forest A → Bool → (A → Bool) → Bool
  evals none k a = not k
  evals (more t f) k a = join k (eval t a) (evals f k a)

-- how many leaves
unfoldable mutual
  pub size : {A : Type 0} → Tree A → ℕ
  size (leaf x) = 1
  size (group k f) = sizes f

  pub sizes : {A : Type 0} → Forest A → ℕ
  sizes none = 0
  sizes (more t f) = size t + sizes f

-- the leaves carry the numbers from `i` on, left to right
abbrev mutual
  pub Numbered : Tree ℕ → ℕ → Type 0
  Numbered (leaf c) i = c ≡ i
  Numbered (group k f) i = Numbereds f i

  pub Numbereds : Forest ℕ → ℕ → Type 0
  Numbereds none i = Unit {0}
  Numbereds (more t f) i = Numbered t i × Numbereds f (i + size t)

-- no group is empty
abbrev pub HasMember : {A : Type 0} → Forest A → Type 0
HasMember none = ⊥
HasMember (more t f) = Unit {0}

abbrev mutual
  pub NonEmpty : {A : Type 0} → Tree A → Type 0
  NonEmpty (leaf x) = Unit {0}
  NonEmpty (group k f) = HasMember f × NonEmpties f

  pub NonEmpties : {A : Type 0} → Forest A → Type 0
  NonEmpties none = Unit {0}
  NonEmpties (more t f) = NonEmpty t × NonEmpties f

-- what holds at every leaf
abbrev mutual
  pub EachLeaf : {A : Type 0} → (A → Type 0) → Tree A → Type 0
  EachLeaf P (leaf x) = P x
  EachLeaf P (group k f) = EachLeaves P f

  pub EachLeaves : {A : Type 0} → (A → Type 0) → Forest A → Type 0
  EachLeaves P none = Unit {0}
  EachLeaves P (more t f) = EachLeaf P t × EachLeaves P f

-- the same tree with other labels
unfoldable mutual
  pub relabel : {A B : Type 0} → (A → B) → Tree A → Tree B
  relabel g (leaf x) = leaf (g x)
  relabel g (group k f) = group k (relabels g f)

  pub relabels : {A B : Type 0} → (A → B) → Forest A → Forest B
  relabels g none = none
  relabels g (more t f) = more (relabel g t) (relabels g f)

-- the span of `n` numbers from `i` on
abbrev pub InSpan : ℕ → ℕ → ℕ → Type 0
InSpan i n d = (i ≤ d) × (d < i + n)
