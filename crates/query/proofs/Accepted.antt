-- Every accepted query is well-formed; the depth by induction over readings.
use Prim.Native.Nat.{ℕ, zero, suc, ◌+◌, ◌≤◌, ◌<◌}
use native.Mathlib.Omega.{arith}
use mathlib.Core.Path.{◌≡◌, sym, subst}
use mathlib.Core.List.{List, [], ◌∷◌}
use lib.ListN.{length, get_or, drop}
use Rattle.fields.specs.Decoded.{accepted}
use Rattle.fields.specs.Numbers.{Bytes}
use Rattle.fields.proofs.ByteLaws.{bytes_take, bytes_drop}
use Rattle.catalogue.specs.Catalogue.{Catalogue}
use Rattle.strategy.specs.Tree.{Tree, Forest}
use Rattle.predicate.specs.Meaning.{Predicate}
use Rattle.predicate.specs.Payload.{tags_of}
use Rattle.query.specs.Format.{depth_limit}
use Rattle.query.specs.Query.{Query}
use Rattle.query.specs.Decode.{decode_tagged, decode_query}
use Rattle.query.specs.Depth.{depth, depths}
use Rattle.query.specs.WellFormed.{WellFormed}
use Rattle.query.proofs.Readings.{Fits, Each, decoded_sound}
use Rattle.query.proofs.Induction.{Said, Steps, accepted_holds}
use Rattle.query.proofs.Distinct.{accepted_distinct}
use Rattle.query.proofs.ValidLaws.{passes_valid}
use Rattle.query.proofs.PlaceLaws.{accepted_placed}

pub each_at : (P : Predicate → Type 0) (ps : List Predicate) → Each P ps → (c : ℕ) (other : Predicate) → c < length ps → P (get_or ps c other)
each_at P [] h c other l = absurd (omega arith)
each_at P (p ∷ ps) h zero other l = h.0
each_at P (p ∷ ps) h (suc c) other l = each_at P ps h.1 c other (omega arith)

-- inside so many groups, what is read nests no deeper than the limit leaves
abbrev TreeShallow : Said (Tree ℕ)
TreeShallow at end around earlier t ps next = around ≤ depth_limit → around + depth t ≤ depth_limit

abbrev ForestShallow : Said (Forest ℕ)
ForestShallow at end around earlier f ps next = around ≤ depth_limit → around + depths f ≤ depth_limit

shallow : (tags q : List ℕ) → Steps tags q TreeShallow ForestShallow
unfolding depth
shallow tags q = record {
  on_leaf = λ at end around earlier start stop s l. omega arith;
  on_group = λ at end around earlier tag start stop f ps s h l. let i = s.shallow in let j = h (omega arith) in omega arith;
  on_none = λ at around earlier l. omega arith;
  on_more = λ at end around earlier t ps next f rest last h r l. let i = h l in let j = r l in omega arith;
}

module _ (c : Catalogue) (q : List ℕ) (bytes : Bytes q) (Q : Query) (is : decode_query c q ≡ accepted Q) where
  tagged : decode_tagged (tags_of c) q ≡ accepted Q
  unfolding decode_query
  tagged = is

  -- each condition passes the check, and its operand stands at its place in the query
  each_fits : (i : ℕ) (other : Predicate) → i < length Q.predicates → Fits (tags_of c) q (get_or Q.predicates i other)
  each_fits = each_at (Fits (tags_of c) q) Q.predicates (decoded_sound (tags_of c) q Q tagged).each

  operand_bytes : (p : Predicate) → Fits (tags_of c) q p → Bytes p.operand
  operand_bytes p f = subst Bytes (sym f.bytes) (bytes_take (drop p.place q) (length p.operand) (bytes_drop q p.place bytes))

  pub query_well_formed : WellFormed c Q
  query_well_formed =
      let s = decoded_sound (tags_of c) q Q tagged in
      let few = s.few (omega arith) in
      let low = accepted_holds (tags_of c) q Q tagged TreeShallow ForestShallow (shallow (tags_of c) q) (omega arith) in
      record {
        some = s.some;
        few = omega arith;
        counted = s.counted;
        numbered = s.numbered;
        full = s.full;
        shallow = omega arith;
        valid = λ i other l. passes_valid c (get_or Q.predicates i other) (each_fits i other l).valid;
        bytes = λ i other l. operand_bytes (get_or Q.predicates i other) (each_fits i other l);
        distinct = accepted_distinct (tags_of c) q Q tagged;
        placed = accepted_placed (tags_of c) q Q tagged;
      }
