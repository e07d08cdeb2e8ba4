-- The bytes of the cases as values, and a run on what they decode to.
use Prim.Native.Nat.{ℕ}
use mathlib.Core.Path.{◌≡◌, refl}
use mathlib.Core.List.{List, [], ◌∷◌}
use Rattle.fields.specs.Decoded.{accepted}
use Rattle.fields.specs.Numbers.{number_at}
use Rattle.fields.specs.Header.{header_at}
use Rattle.slots.specs.Slots.{text_at, texts_at, zeros_at, valid_slot, valid_slots}
use Rattle.catalogue.specs.Catalogue.{Catalogue, numbers, texts, unmarked}
use Rattle.catalogue.specs.Decode.{numbers_at, counts_at, first_field_of, column_of, columns_at, decode_catalogue}
use Rattle.catalogue.specs.Mark.{mark_field_at}
use Rattle.predicate.specs.Kinds.{plain_kind}
use Rattle.predicate.specs.Meaning.{Predicate, same}
use Rattle.predicate.specs.Payload.{tags_in, kind_fits, range_fits, operand_fits, valid_payload}
use Rattle.query.specs.Query.{Query}
use Rattle.query.specs.Decode.{payload_at, is_repeated, predicate_field, group_field, member_field, decode_tagged, decode_query, member}
use Rattle.strategy.specs.Tree.{Tree, leaf, none, more, all, any}
use Rattle.task.specs.Input.{Input, decode_input}
use Rattle.demands.specs.Run.{lent, run_on, run_of}
use Rattle.demands.specs.Parish.{parish, year_blank, both, question}
use Rattle.demands.specs.Cases.{century, one_row}

abbrev pub parish_catalogue : Catalogue
parish_catalogue = record {
  rows = 3;
  columns = numbers (1701 ∷ 1822 ∷ 4294967295 ∷ []) ∷ texts ((0x41 ∷ 0x73 ∷ 0x68 ∷ []) ∷ (0x41 ∷ 0x53 ∷ 0x48 ∷ 0x42 ∷ 0x59 ∷ []) ∷ [] ∷ []) ∷ [];
  mark = unmarked;
}

-- the three conditions, each with its operand at a place
abbrev in_century : ℕ → Predicate
in_century place = record { column = 0; kind = 0; operand = century; place = place }

abbrev begins_ash : ℕ → Predicate
begins_ash place = record { column = 1; kind = 3; operand = 0x61 ∷ 0x73 ∷ 0x68 ∷ []; place = place }

abbrev is_blank : ℕ → Predicate
is_blank place = record { column = 0; kind = 1; operand = []; place = place }

abbrev both_tree : Tree ℕ
both_tree = all (more (leaf 0) (more (leaf 1) none))

abbrev pub both_query : Query
both_query = record { tree = both_tree; predicates = in_century 8 ∷ begins_ash 21 ∷ [] }

abbrev pub parish_query : Query
parish_query = record { tree = any (more both_tree (more (leaf 2) none)); predicates = in_century 11 ∷ begins_ash 24 ∷ is_blank 32 ∷ [] }

parish_catalogue_lem : decode_catalogue parish ≡ accepted parish_catalogue
unfolding number_at header_at text_at texts_at zeros_at valid_slot valid_slots numbers_at counts_at first_field_of column_of columns_at mark_field_at decode_catalogue
parish_catalogue_lem = refl

parish_query_lem : decode_query parish_catalogue question ≡ accepted parish_query
unfolding number_at header_at plain_kind tags_in kind_fits range_fits operand_fits valid_payload payload_at is_repeated predicate_field group_field member_field decode_tagged decode_query member same
parish_query_lem = refl

both_query_lem : decode_query parish_catalogue both ≡ accepted both_query
unfolding number_at header_at plain_kind tags_in kind_fits range_fits operand_fits valid_payload payload_at is_repeated predicate_field group_field member_field decode_tagged decode_query member same
both_query_lem = refl

-- one row, and the last condition alone

abbrev pub one_catalogue : Catalogue
one_catalogue = record { rows = 1; columns = numbers (1701 ∷ []) ∷ []; mark = unmarked }

abbrev pub blank_query : Query
blank_query = record { tree = leaf 0; predicates = is_blank 5 ∷ [] }

one_catalogue_lem : decode_catalogue one_row ≡ accepted one_catalogue
unfolding number_at header_at numbers_at counts_at first_field_of column_of columns_at mark_field_at decode_catalogue
one_catalogue_lem = refl

blank_query_lem : decode_query one_catalogue year_blank ≡ accepted blank_query
unfolding number_at header_at plain_kind tags_in kind_fits range_fits operand_fits valid_payload payload_at is_repeated predicate_field group_field member_field decode_tagged decode_query member
blank_query_lem = refl

-- together

input_of : (b q : List ℕ) {C : Catalogue} {Q : Query} → decode_catalogue b ≡ accepted C → decode_query C q ≡ accepted Q → decode_input b q ≡ accepted (record { catalogue = C; query = Q })
unfolding decode_input
input_of b q c d = rw (c, d)

pub parish_input : decode_input parish question ≡ accepted (record { catalogue = parish_catalogue; query = parish_query })
parish_input = input_of parish question parish_catalogue_lem parish_query_lem

pub both_input : decode_input parish both ≡ accepted (record { catalogue = parish_catalogue; query = both_query })
both_input = input_of parish both parish_catalogue_lem both_query_lem

pub one_input : decode_input one_row year_blank ≡ accepted (record { catalogue = one_catalogue; query = blank_query })
one_input = input_of one_row year_blank one_catalogue_lem blank_query_lem

pub run_on_lem : (b q : List ℕ) {i : Input} (order : List ℕ) (reader : ℕ) (listed looks tally : List ℕ) → decode_input b q ≡ accepted i
    → run_of (lent b q order reader listed looks tally) ≡ run_on i (lent b q order reader listed looks tally)
unfolding run_of
run_on_lem b q order reader listed looks tally e = rw e
