-- The query of a tree of payloads: its conditions "numbered from 0 as they stand", each with its operand's place in the encoding.
-- Waits for order 12, which writes a question from a tree of its own; no contract cites it yet.
use Rattle.std.specs.Prelude.{ℕ, ◌+◌, List, [], ◌∷◌, ◌++◌, length}
use Rattle.fields.specs.Header.{header_size}
use Rattle.strategy.specs.Tree.{Tree, leaf, group, Forest, none, more, size}
use Rattle.predicate.specs.Meaning.{Predicate}
use Rattle.predicate.specs.Payload.{predicate_of, payload_head}
use Rattle.query.specs.Query.{Query}
use Rattle.query.specs.Encode.{encode}

-- the numbers from n on at the leaves, left to right
unfoldable mutual
  pub numbered_from : {A : Type 0} → (n : ℕ) → Tree A → Tree ℕ
  numbered_from n (leaf x) = leaf n
  numbered_from n (group k f) = group k (numbered_froms n f)

  pub numbered_froms : {A : Type 0} → (n : ℕ) → Forest A → Forest ℕ
  numbered_froms n none = none
  numbered_froms n (more t f) = more (numbered_from n t) (numbered_froms (n + size t) f)

-- the predicates of the leaves, where the tree's field begins at a place
unfoldable mutual
  pub predicates_from : (at : ℕ) → Tree (List ℕ) → List Predicate
  predicates_from at (leaf payload) = predicate_of (at + header_size + payload_head) payload ∷ []
  predicates_from at (group k f) = predicates_froms (at + header_size) f

  pub predicates_froms : (at : ℕ) → Forest (List ℕ) → List Predicate
  predicates_froms at none = []
  predicates_froms at (more t f) = predicates_from at t ++ predicates_froms (at + length (encode t)) f

abbrev pub query_of : Tree (List ℕ) → Query
query_of t = record { tree = numbered_from 0 t; predicates = predicates_from 0 t }
