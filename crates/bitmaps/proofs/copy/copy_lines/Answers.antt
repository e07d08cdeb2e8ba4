-- `copy_lines` meets its contract. Invariant: the lines passed stand at the front, the further bytes are the old ones.
use Rattle.bitmaps.proofs.Lines.{line_behind, line_fits, part_length, place_behind}
use Rattle.bitmaps.specs.Sums.{joined}
use Rattle.bitmaps.specs.Table.{line_size, lines_of}
use Rattle.fields.proofs.OutputLaws.{put_front_lem, wrote_none}
use Rattle.std.proofs.Common.{arith, refl, ◌∙◌, ◌*◌, ◌≡◌}
use Rattle.bitmaps.proofs.copy.copy_lines.Goals as goal

pub loop-c-init : goal.loop-c-init
unfolding lines_of joined
loop-c-init c = record { place = omega arith; wrote = wrote_none 0 _ }

pub put-at-requires : goal.put-at-requires
put-at-requires c =
    let a = c.args in
    let l = c.loop-c in
    omega (arith, part_length a.from.table.now (l.c * line_size) a.from.size (omega arith), line_fits a.from.size a.from.n l.c (omega arith))

pub loop-c-preserved : goal.loop-c-preserved
loop-c-preserved c =
    let a = c.args in
    let l = c.loop-c in
    let f = a.from in
    let w = line_behind f.size f.n l.c f.table.now a.to.now f.inside.0 f.inside.1 c.requires (omega arith) refl l.invariant.place l.invariant.wrote c.put-at.ensures in
    record { place = place_behind f.size f.n l.c f.table.now a.to.now f.inside.0 f.inside.1 c.requires (omega arith) w; wrote = w }

pub returns : goal.returns
returns c =
    let l = c.loop-c in
    let f = c.args.from in
    let e : l.c ≡ f.n = omega arith in
    rw (← e) (l.invariant.wrote.bytes ∙ put_front_lem (lines_of f.size f.table.now l.c) c.args.to.now)
