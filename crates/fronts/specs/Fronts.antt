-- Equals and begins: which lengths may pass, and what is left to compare.
use Rattle.std.specs.Prelude.{ℕ, ◌<◌, ◌≡◌, Bool, ◌||◌, cond, List, length, get_or, eqb, leb}
use Rattle.predicate.specs.Kinds.{equals_kind, begins_kind}
use Rattle.predicate.specs.Meaning.{fold}
use Rattle.fronts.specs.Sure.{sure_size}

-- the kinds that compare a text from its front on
abbrev pub of_fronts : (kind : ℕ) → Bool
of_fronts kind = eqb kind equals_kind || eqb kind begins_kind

-- equals asks for the operand's length, begins for no less
abbrev pub size_fits : (kind text operand : ℕ) → Bool
size_fits kind text operand = cond (eqb kind equals_kind) (eqb text operand) (leb operand text)

-- a text's bytes fold as the operand's, as far as a slot's first word goes
abbrev pub BeginsAlike : (o t : List ℕ) → Type 0
BeginsAlike o t = (i : ℕ) → i < length o → i < sure_size → fold (get_or t i 0) ≡ fold (get_or o i 0)
