-- The numbers of a set that a test keeps, worked out number by number, lowest first.
use Rattle.std.specs.Prelude.{ℕ, ◌^◌, ◌<◌, ◌≡◌, Bool, true, ◌&&◌, ◌||◌}
use Rattle.std.specs.Int.Bits.{bit_xor}
use Rattle.std.specs.Int.Count.{count_trailing_zeros}
use Rattle.sets.specs.Set.{has, one_set}

-- r holds the numbers of x that P keeps
abbrev pub KeptBy : (P : ℕ → Bool) → (x r : ℕ) → Type 0
KeptBy P x r = (d : ℕ) → has r d ≡ (has x d && P d)

-- a test may be asked at each number of x
abbrev pub MayAsk : (asks : ℕ → Type 0) → (x : ℕ) → Type 0
MayAsk asks x = (d : ℕ) → has x d ≡ true → asks d

-- what the test may answer at a number of x is what P says
abbrev pub Answers : (answers : ℕ → Bool → Type 0) → (x : ℕ) → (P : ℕ → Bool) → Type 0
Answers answers x P = (d : ℕ) (p : Bool) → has x d ≡ true → answers d p → p ≡ P d

-- r holds the numbers of x at which the test passes: those that P keeps, where the test answers as P says
abbrev pub KeptWhere : (answers : ℕ → Bool → Type 0) → (x r : ℕ) → Type 0
KeptWhere answers x r = (P : ℕ → Bool) → Answers answers x P → KeptBy P x r

-- a filter: r holds numbers of x, and among them all that P keeps
pub record Sifted (P : ℕ → Bool) (x r : ℕ) : Type 0 where
  pub within : (d : ℕ) → has r d ≡ true → has x d ≡ true
  pub no_fewer : (d : ℕ) → has x d ≡ true → P d ≡ true → has r d ≡ true

-- the lowest number of a set of numbers below 64 that has one
abbrev pub lowest : ℕ → ℕ
lowest x = count_trailing_zeros 64 x

-- t is the lowest number of x, and one of it
pub record FirstIs (x t : ℕ) : Type 0 where
  pub lowest_is : t ≡ lowest x
  pub below : t < 64
  pub among : has x t ≡ true

-- r is x without its lowest number: that is all in which they differ
pub record RestIs (x r : ℕ) : Type 0 where
  pub taken : bit_xor x r ≡ one_set (lowest x)
  pub less : r < x

-- a loop over the numbers of x: `left` is to come, and `met` is what P keeps of the others
pub record Sorting (P : ℕ → Bool) (x left met : ℕ) : Type 0 where
  pub small : left < 2 ^ 64
  pub within : (d : ℕ) → has left d ≡ true → has x d ≡ true
  pub sorted : (d : ℕ) → (has met d || (has left d && P d)) ≡ (has x d && P d)
