-- `write_consultation` meets its contract: the run is the definition's, and so is the register of it.
use Rattle.catalogue.specs.Decode.{decode_catalogue}
use Rattle.consultation.proofs.Consulting.{as_long, consulted, has_room, rows_shown}
use Rattle.std.proofs.Common.{arith, rules}
use Rattle.std.proofs.lemmas.Result.{MatchResult-weaker}
use Rattle.consultation.proofs.write_consultation.Goals as goal

pub write_register-requires : goal.write_register-requires
write_register-requires c =
    let run = c.searchroom_run-word.auto in
    let shown = rows_shown c.args.catalogue.now c.lay_out.result c.map_or-rows.result (decode_catalogue c.args.catalogue.now) c.lay_out.ensures
    (MatchResult-weaker c.lay_out.result c.map_or-rows.ensures (λ l k. search rules) (λ e k. k)) in
    has_room _ _ _ _ _ shown.0 c.requires.0 (as_long run.listed) (as_long run.looks) c.requires.1

pub returns : goal.returns
returns c =
    let a = c.args in
    let shown = rows_shown a.catalogue.now c.lay_out.result c.map_or-rows.result (decode_catalogue a.catalogue.now) c.lay_out.ensures
    (MatchResult-weaker c.lay_out.result c.map_or-rows.ensures (λ l k. search rules) (λ e k. k)) in (
      consulted a.catalogue.now a.question.now a.order.now _ shown.1 _ _ _ _ _ _ _ c.searchroom_run-word.ensures
          c.number_in.ensures c.first_in.ensures c.third_in.ensures c.write_register.ensures,
      λ i. omega (arith, c.shared_slice_known-1.given i),
      λ i. omega (arith, c.shared_slice_known-2-1.given i),
    )
